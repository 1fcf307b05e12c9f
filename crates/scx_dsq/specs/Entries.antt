-- Where a task waits, and which of two entries comes first. Keys are compared as unsigned numbers,
-- entries of one key by their turns. A turn is the number of pushes that were accepted before; that
-- of a push to the front is below 0, the later the lower. In order of arrival the key is 0
-- (sched-ext.rst, "Dispatch Queues", and ext.c, `scx_dispatch_enqueue`; that keys are unsigned is
-- this project's own).
use Rattle.std.specs.Prelude.{ℕ, ℤ, pos, negsuc, Bool, true, false, ◌==◌, ◌&&◌, ◌||◌, nat_lt, int_lt}
use Rattle.scx_dsq.specs.declared.entries.Rank.{Rank}
use Rattle.scx_dsq.specs.declared.entries.Rank.TheVariants.{Fifo, Front, Vtime}
use Rattle.scx_dsq.specs.declared.entries.Entry.{Entry}

-- the number by which a queue is ordered
abbrev pub key_of : Rank → ℕ
key_of Fifo = 0
key_of Front = 0
key_of (Vtime key) = key

-- whether a queue may hold both
abbrev pub same_sort : Rank → Rank → Bool
same_sort Fifo Fifo = true
same_sort Fifo Front = true
same_sort Fifo (Vtime k) = false
same_sort Front Fifo = true
same_sort Front Front = true
same_sort Front (Vtime k) = false
same_sort (Vtime k) Fifo = false
same_sort (Vtime k) Front = false
same_sort (Vtime k) (Vtime l) = true

-- a rank of the same sort, with the key 0
abbrev pub keyless : Rank → Rank
keyless Fifo = Fifo
keyless Front = Front
keyless (Vtime key) = Vtime 0

-- a turn by rank and stamp: the stamp, or a number below 0 for a push to the front
abbrev pub turn_by : Rank → ℕ → ℤ
turn_by Fifo stamp = pos stamp
turn_by Front stamp = negsuc stamp
turn_by (Vtime key) stamp = pos stamp

-- an entry's turn among those of its key
abbrev pub turn : Entry → ℤ
turn p = turn_by p.rank p.stamp

-- whether an entry comes before another: by key, then by turn
abbrev pub is_before : Entry → Entry → Bool
is_before p q =
    nat_lt (key_of p.rank) (key_of q.rank)
    || (key_of p.rank == key_of q.rank && int_lt (turn p) (turn q))
