-- Sets of processors, as a kernel's cpumask: a bit for each.
use Rattle.std.specs.Prelude.{ℕ, Bool, ◌==◌, ◌*◌, ◌%◌, ◌^◌}
use Rattle.std.specs.Int.{w64, bit_at, bit_not}
use Rattle.std.specs.Int.Bits.{bit_or, bit_and}
use Rattle.scx_sched_world.specs.declared.cpu_set.CpuSet.{CpuSet}

-- no processor
abbrev pub no_cpus : CpuSet
no_cpus = record { 0 = 0 }

-- whether the processor is in the set
abbrev pub is_in_set : CpuSet → ℕ → Bool
is_in_set s c = bit_at s.0 c == 1

-- the set and that processor
abbrev pub and_cpu : CpuSet → ℕ → CpuSet
and_cpu s c = record { 0 = bit_or s.0 (1 * 2 ^ c % 2 ^ 64) }

-- the set but for that processor
abbrev pub but_cpu : CpuSet → ℕ → CpuSet
but_cpu s c = record { 0 = bit_and s.0 (bit_not w64 (1 * 2 ^ c % 2 ^ 64)) }
