use Rattle.std.proofs.Common.{rules, ◌≡◌, ◌<◌, nat_eq, false, true, length, slice_index, sym, arith}
use Rattle.scx_asm_text.specs.Tokens.{lexemes, is_blank, tokens}
use Rattle.scx_asm_text.proofs.Lexing.{begins, after_gap, after_touched, no_token}
use Rattle.scx_asm_text.proofs.lexer.tokens.Goals as goal

pub loop-rest-init : goal.loop-rest-init
loop-rest-init c = (rw c.clear.ensures.items (begins c.args.line.now _ (omega arith)), omega arith)

pub returns-in_default : goal.returns-in_default
returns-in_default c =
    let some : 0 < length c.loop-rest.rest.now = search rules in
    let unmarked : nat_eq (slice_index c.loop-rest.rest.now 0) 35 ≡ false = search rules in
    let dark : is_blank (slice_index c.loop-rest.rest.now 0) ≡ false = search rules in
    no_token (lexemes c.loop-rest.found.items) _ c.loop-rest.rest.now (tokens c.args.line.now) some unmarked dark (sym c.in_default.ensures.token) c.loop-rest.invariant.0

pub loop-rest-preserved-then-is_blank : goal.loop-rest-preserved-then-is_blank
loop-rest-preserved-then-is_blank c =
    let some : 0 < length c.loop-rest.rest.now = search rules in
    let unmarked : nat_eq (slice_index c.loop-rest.rest.now 0) 35 ≡ false = search rules in
    let here : is_blank (slice_index c.loop-rest.rest.now 0) ≡ true = search rules in
    (rw c.split_at.ensures.back (after_gap (lexemes c.loop-rest.found.items) _ c.loop-rest.end c.loop-rest.rest.now (tokens c.args.line.now) some c.loop-rest.invariant.1 unmarked here c.loop-rest.invariant.0), omega arith)

pub loop-rest-preserved : goal.loop-rest-preserved
loop-rest-preserved c =
    let some : 0 < length c.loop-rest.rest.now = search rules in
    let unmarked : nat_eq (slice_index c.loop-rest.rest.now 0) 35 ≡ false = search rules in
    let dark : is_blank (slice_index c.loop-rest.rest.now 0) ≡ false = search rules in
    let within = c.in-Some.ensures.within in (
      rw (c.in_ok-push.ensures.items, c.split_at-else-is_blank.ensures.back)
          (after_touched c.loop-rest.found.items _ c.loop-rest.rest.now c.in-Some.token c.in-Some.length (tokens c.args.line.now) within.0 within.1 unmarked dark (sym c.in-Some.ensures.token) c.loop-rest.invariant.0),
      omega arith,
    )
