-- A text whose top table has a key `events` is meant as a file of events.
use Rattle.std.proofs.Common.{◌≡◌, ℕ, false, List, Option, Some, None, Ok, Err, codes, refl, ap}
use Rattle.std.specs.Prelude.{is_some, option_map}
use Rattle.toml.specs.Data.{Members}
use Rattle.toml.specs.Parse.{parse_document}
use Rattle.scx_load_files.specs.declared.fault.Cause.TheVariants as cause
use Rattle.scx_load_files.specs.Faults.{Fault, Reading, refusal}
use Rattle.scx_load_files.specs.Values.{found_or, document}
use Rattle.scx_load_replay.specs.Reading.{has_key_events, has_events}

abbrev read_as : Option Members → Reading Members
read_as o = found_or Ok (refusal (codes "file") cause.NotToml) o

-- a text that is no document isn't one
pub no_document : (text : List ℕ) (e : Fault) → document text ≡ Err e → has_events text ≡ false
no_document text e is = go (parse_document text) is
  where
    go : (o : Option Members) → read_as o ≡ Err e → found_or has_key_events false o ≡ false
    go None x = refl
    go (Some ms) x = absurd (cc)

-- the table of a document says it
pub document_is : (text : List ℕ) (ms : Members) → document text ≡ Ok ms → has_events text ≡ has_key_events ms
document_is text ms is = go (parse_document text) is
  where
    go : (o : Option Members) → read_as o ≡ Ok ms → found_or has_key_events false o ≡ has_key_events ms
    go None x = absurd (cc)
    go (Some m) x = let same : m ≡ ms = cc in ap (λ k. has_key_events k) same

-- a value is there if one is seen there
pub some_in_view : {A B : Type 0} (view : A → B) (o : Option A) (p : Option B) → option_map view o ≡ p → is_some o ≡ is_some p
some_in_view view None p is = ap (λ q. is_some q) is
some_in_view view (Some x) p is = ap (λ q. is_some q) is
