-- Entries as the queues keep them, with key and stamp as a `Priority`. No public clause cites it.
use Rattle.std.proofs.Common.{◌≡◌, ℕ, refl, sym, ap}
use Rattle.scx_dsq.specs.declared.entries.Rank.{Rank}
use Rattle.scx_dsq.specs.declared.entries.Rank.TheVariants.{Fifo, Front, Vtime}
use Rattle.scx_dsq.specs.declared.entries.Entry.{Entry}
use Rattle.scx_dsq.specs.declared.kept_entry.Way.{Way}
use Rattle.scx_dsq.specs.declared.kept_entry.Way.TheVariants.{AtEnd, AtFront, ByVtime}
use Rattle.scx_dsq.specs.declared.kept_entry.KeptEntry.TheInside.{Inside}
use Rattle.scx_dsq.specs.Entries.{key_of}

-- the way by which a task with that rank came into its queue
abbrev pub way_of : Rank → Way
way_of Fifo = AtEnd
way_of Front = AtFront
way_of (Vtime key) = ByVtime

-- the rank of an entry by that way and its key
abbrev pub rank_of : Way → ℕ → Rank
rank_of AtEnd key = Fifo
rank_of AtFront key = Front
rank_of ByVtime key = Vtime key

-- the entry that the fields represent
abbrev pub entry_in : Inside → Entry
entry_in i =
    record { queue = i.queue; rank = rank_of i.way i.priority.key; stamp = i.priority.stamp }

-- in order of arrival the key is 0
abbrev pub FitsKey : Way → ℕ → Type 0
FitsKey AtEnd key = key ≡ 0
FitsKey AtFront key = key ≡ 0
FitsKey ByVtime key = Unit {0}

-- so it is in the fields
abbrev pub HasKeyOfWay : Inside → Type 0
HasKeyOfWay i = FitsKey i.way i.priority.key

-- the fields that represent an entry
abbrev pub entry_kept : Entry → Inside
entry_kept p = record {
  queue = p.queue;
  way = way_of p.rank;
  priority = record { key = key_of p.rank; stamp = p.stamp };
}

-- the fields are those that represent their entry
pub entry_back : (i : Inside) → HasKeyOfWay i → entry_kept (entry_in i) ≡ i
entry_back i h = go i.way h
  where
    kept : Way → ℕ → Inside
    kept w key = record i { way = w; priority = record { key = key; stamp = i.priority.stamp } }

    go : (w : Way) → FitsKey w i.priority.key
        → entry_kept (entry_in (kept w i.priority.key)) ≡ kept w i.priority.key
    go AtEnd zero = ap (kept AtEnd) (sym zero)
    go AtFront zero = ap (kept AtFront) (sym zero)
    go ByVtime any = refl
