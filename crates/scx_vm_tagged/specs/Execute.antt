-- The interpreter's answer to an instruction, with the state and the host that it leaves, as
-- the effect that the instruction has by its meaning (RFC 9669, sections 4 and 5).
use Rattle.std.specs.Prelude.{◌≡◌}
use Rattle.scx_isa_semantics.specs.declared.values.Value.{Value}
use Rattle.scx_isa_semantics.specs.Elements.{Maps}
use Rattle.scx_isa_semantics.specs.Machine.{Machine}
use Rattle.scx_isa_semantics.specs.Effects as effects
use Rattle.scx_isa_semantics.specs.Runs.{Outside}
use Rattle.scx_vm_tagged.specs.declared.effect.Effect.{Effect}
use Rattle.scx_vm_tagged.specs.declared.effect.Effect.TheVariants.{Stuck, Next, Jumped, Ended}

-- the effect of an instruction that asks the host nothing
abbrev pub effect_of : Effect → Machine → effects.Effect
effect_of Stuck m = effects.Stuck
effect_of Next m = effects.Next m
effect_of Jumped m = effects.Jumped m
effect_of (Ended n) m = effects.Ended n

-- control goes on to the next instruction, in this state and outside, by an answer where
-- one is asked for
abbrev pub GoesOn : {W : Type 0} → Outside W → effects.Effect → W → Machine → W → Type 0
GoesOn O effects.Stuck w m w' = ⊥
GoesOn O (effects.Next n) w m w' = (m ≡ n) × (w' ≡ w)
GoesOn O (effects.Jumped n) w m w' = ⊥
GoesOn O (effects.Ask q go) w m w' = (v : Value) × O w q v w' × (m ≡ go v)
GoesOn O (effects.Ended n) w m w' = ⊥

-- an effect with these maps and this outside comes to what the interpreter says, and
-- leaves the others
abbrev pub ComesTo :
    {W : Type 0} → Outside W → effects.Effect → Maps → W → Effect → Machine → W → Type 0
ComesTo O e maps w Stuck m w' = (e ≡ effects.Stuck) × (m.maps ≡ maps) × (w' ≡ w)
ComesTo O e maps w Next m w' = GoesOn O e w m w'
ComesTo O e maps w Jumped m w' = (e ≡ effects.Jumped m) × (m.maps ≡ maps) × (w' ≡ w)
ComesTo O e maps w (Ended n) m w' = (e ≡ effects.Ended n) × (m.maps ≡ maps) × (w' ≡ w)
