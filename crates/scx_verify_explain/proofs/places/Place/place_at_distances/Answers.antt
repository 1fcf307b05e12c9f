use Rattle.std.proofs.Common.{rules, arith, ◌≡◌, min}
use Rattle.std.proofs.lemmas.Int.{ints}
use Rattle.std.proofs.lemmas.Grind.{common_steps}
use Rattle.scx_verify_explain.proofs.Sums.{added, same_place}
use Rattle.scx_verify_explain.proofs.places.Place.place_at_distances.Goals as goal

pub returns : goal.returns
returns c =
    let p = c.args.self in
    let d = c.args.distances in
    let near = c.requires.near in
    let short = c.requires.short in
    let from = added p.from d.least (omega (arith, ints, near.from_low, near.from_high)) (omega (arith, ints, short.least_low, short.least_high)) (omega (arith, ints, near.from_low, near.from_high, short.least_low, short.least_high)) in
    let to = added p.to d.most (omega (arith, ints, near.to_low, near.to_high)) (omega (arith, ints, short.most_low, short.most_high)) (omega (arith, ints, near.to_low, near.to_high, short.most_low, short.most_high)) in
    let shift : c.min.result ≡ min p.shift d.shift = first_of (search rules, grind (arith, common_steps)) in
    same_place p.memory _ _ _ _ _ _ from to shift
