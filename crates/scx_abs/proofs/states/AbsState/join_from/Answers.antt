use Rattle.std.proofs.Common.{rules}
use Rattle.scx_abs.specs.declared.states.AbsState.{AbsState}
use Rattle.scx_abs.specs.States.{IsWhole}
use Rattle.scx_abs.proofs.Blanks.{joined_blank}
use Rattle.scx_abs.proofs.Joins.{is_join}
use Rattle.scx_abs.proofs.Proper.{join_proper}
use Rattle.scx_abs.proofs.states.AbsState.join_from.Goals as goal

pub returns-clause-least : goal.returns-clause-least
returns-clause-least c =
    let joined : AbsState = record { registers = c.join_registers.new.registers; cells = c.join_cells.new.cells } in
    let whole : IsWhole joined = record { registers = c.join_registers.ensures.long; cells = c.join_cells.ensures.long } in
    let whole_first : IsWhole c.args.self.now = record { registers = search rules; cells = search rules } in
    let whole_second : IsWhole c.args.other.now = record { registers = c.join_registers.ensures.other_long; cells = c.join_cells.ensures.other_long } in
    is_join joined c.args.self.now c.args.other.now whole whole_first whole_second c.join_registers.ensures.each c.join_cells.ensures.each

pub returns-clause-proper : goal.returns-clause-proper
returns-clause-proper c = λ first second.
    let joined : AbsState = record { registers = c.join_registers.new.registers; cells = c.join_cells.new.cells } in
    let whole : IsWhole joined = record { registers = c.join_registers.ensures.long; cells = c.join_cells.ensures.long } in
    join_proper joined c.args.self.now c.args.other.now whole first second c.join_registers.ensures.each c.join_cells.ensures.each

pub returns-clause-blank : goal.returns-clause-blank
returns-clause-blank c = record {
  within = c.requires.first.within;
  blank = joined_blank c.join_cells.new.cells c.args.self.now.cells c.args.other.now.cells c.args.low c.requires.first.within c.requires.first.blank c.requires.second.blank c.join_cells.ensures.each;
}
