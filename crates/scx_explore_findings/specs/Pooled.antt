-- The meaning of a pool's fields. No public clause cites it.
use Rattle.std.specs.Prelude.{All}
use Rattle.scx_explore_findings.specs.declared.pool.Pool.TheInside.{Inside}
use Rattle.scx_explore_findings.specs.Path.{IsAs}
use Rattle.scx_explore_findings.specs.Pool.{PoolState}

-- the pool that the fields mean
abbrev pub pool_of : Inside → PoolState
pool_of i = record { root = i.root; sims = i.sims.items }

-- what always holds of the fields of a pool
abbrev pub AreAlike : Inside → Type 0
AreAlike i = All (IsAs i.root) i.sims.items
