-- By plain rules the flags of an insert that are known change nothing of it.
use Rattle.std.proofs.Common.{◌≡◌, ℕ, zero, suc, Bool, true, false, nat_le, ◌&&◌, not, if◌then◌else◌, Option, Some, None, refl, sym, ap, ◌∙◌, arith}
use Rattle.std.proofs.lemmas.Bool.{leb-true}
use Rattle.scx_dsq.specs.declared.entries.Rank.TheVariants.{Fifo}
use Rattle.scx_sched_world.specs.declared.call.Insert.{Insert}
use Rattle.scx_sched_world.specs.declared.faults.Fault.{Fault}
use Rattle.scx_sched_world.specs.declared.faults.Fault.TheVariants.{CannotInsert, UnknownFlag}
use Rattle.scx_sched_world.specs.World.{WorldState, is_by_linux}
use Rattle.scx_sched_world.specs.Helpers.{may_insert, queue_fault, rank_fault, placing_fault, or_fault, invalid_if, insert_fault, insert_or_fault, insert_answer, after_insert, are_linux_flags, is_dispatch, is_held, is_late, after_late, flags_fault}
use Rattle.scx_sched_world.specs.Inserts.{insert_in_order}

-- an insert in order of arrival without flags
abbrev pub last : (queue slice : ℕ) → Insert
last queue slice = record { queue = queue; slice = slice; rank = Fifo; preempts = false; refills = false }

-- what an insert answers, and the world after it
record Same (w : WorldState) (t : Option ℕ) (i j : Insert) (flags : ℕ) : Type 0 where
  pub answer : invalid_if (insert_fault w t i flags) ≡ invalid_if (insert_fault w t j flags)
  pub world : insert_or_fault w (insert_fault w t i flags) t i ≡ insert_or_fault w (insert_fault w t j flags) t j

-- flags that are known
known : (w : WorldState) (queue slice flags : ℕ) → is_by_linux w ≡ false → nat_le flags 1 ≡ true → last queue slice ≡ insert_in_order w queue slice flags
known w queue slice zero plain e = ap (λ (b : Bool). record (last queue slice) { refills = b }) (sym plain)
known w queue slice (suc zero) plain e = ap (λ (b : Bool). record (last queue slice) { refills = b }) (sym plain)
known w queue slice (suc (suc n)) plain e = absurd (omega (arith, leb-true (suc (suc n)) 1 e))

-- what is wrong with an insert, by whether its flags are known
abbrev fault_by : WorldState → Option ℕ → Insert → Bool → Option Fault
fault_by w t i b =
    if may_insert w t
    then or_fault (if b then None else Some UnknownFlag)
    (or_fault (queue_fault w i.queue)
    (or_fault (rank_fault w i.queue i.rank) (placing_fault w t i.queue)))
    else Some CannotInsert

by_flags : (w : WorldState) (t : Option ℕ) (i : Insert) (flags : ℕ) → is_by_linux w ≡ false → insert_fault w t i flags ≡ fault_by w t i (nat_le flags 1)
by_flags w t i flags plain = ap (λ b. fault_by w t i (if b then are_linux_flags flags else nat_le flags 1)) plain

-- flags that aren't known are wrong, whatever the insert
unknown : (w : WorldState) (t : Option ℕ) (i : Insert) (flags : ℕ) → is_by_linux w ≡ false → nat_le flags 1 ≡ false → insert_fault w t i flags ≡ (if may_insert w t then Some UnknownFlag else Some CannotInsert)
unknown w t i flags plain e = by_flags w t i flags plain ∙ ap (λ b. fault_by w t i b) e

same : (w : WorldState) (t : Option ℕ) (queue slice flags : ℕ) → is_by_linux w ≡ false → Same w t (last queue slice) (insert_in_order w queue slice flags) flags
same w t queue slice flags plain = go (nat_le flags 1) refl
  where
    i : Insert
    i = last queue slice

    j : Insert
    j = insert_in_order w queue slice flags

    wrong : (m : Bool) (f : Option Fault) (g : Option Fault) → f ≡ (if m then Some UnknownFlag else Some CannotInsert) → g ≡ f → insert_or_fault w f t i ≡ insert_or_fault w g t j
    wrong true f g e d = rw (d, e) refl
    wrong false f g e d = rw (d, e) refl

    go : (b : Bool) → nat_le flags 1 ≡ b → Same w t i j flags
    go true e = record {
      answer = ap (λ (k : Insert). invalid_if (insert_fault w t k flags)) (known w queue slice flags plain e);
      world = ap (λ (k : Insert). insert_or_fault w (insert_fault w t k flags) t k) (known w queue slice flags plain e);
    }
    go false e =
        let first = unknown w t i flags plain e in
        let second = unknown w t j flags plain e in
        record {
          answer = ap (λ f. invalid_if f) (first ∙ sym second);
          world = wrong (may_insert w t) _ _ first (second ∙ sym first);
        }

-- the answer of an insert without flags
pub answers_last : (w : WorldState) (t : Option ℕ) (queue slice flags : ℕ) → is_by_linux w ≡ false → invalid_if (insert_fault w t (last queue slice) flags) ≡ insert_answer w t (insert_in_order w queue slice flags) flags
answers_last w t queue slice flags plain =
    let j = insert_in_order w queue slice flags in
    (same w t queue slice flags plain).answer
    ∙ sym (ap (λ b. if b && (is_dispatch w.call.callback && not (is_held w t)) then invalid_if (flags_fault w flags) else invalid_if (insert_fault w t j flags)) plain)

-- the world after it
pub leaves_last : (w : WorldState) (t : Option ℕ) (queue slice flags : ℕ) → is_by_linux w ≡ false → insert_or_fault w (insert_fault w t (last queue slice) flags) t (last queue slice) ≡ after_insert w t (insert_in_order w queue slice flags) flags
leaves_last w t queue slice flags plain =
    let j = insert_in_order w queue slice flags in
    (same w t queue slice flags plain).world
    ∙ sym (ap (λ b. if b && (is_dispatch w.call.callback && not (is_held w t)) then after_late w (flags_fault w flags) else insert_or_fault w (insert_fault w t j flags) t j) plain)
