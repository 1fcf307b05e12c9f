-- What an effect comes to, where nothing or one answer is asked of the host.
use Rattle.std.proofs.Common.{◌≡◌, refl, sym, subst}
use Rattle.scx_isa_semantics.specs.Elements.{Maps}
use Rattle.scx_isa_semantics.specs.Machine.{Machine}
use Rattle.scx_isa_semantics.specs.Effects as effects
use Rattle.scx_isa_semantics.specs.Runs.{Outside}
use Rattle.scx_vm_tagged.specs.declared.effect.Effect.{Effect}
use Rattle.scx_vm_tagged.specs.declared.effect.Effect.TheVariants.{Stuck, Next, Jumped, Ended}
use Rattle.scx_vm_tagged.specs.Execute.{effect_of, GoesOn, ComesTo}

-- an effect that the interpreter brings about by itself
pub comes_to : {W : Type 0} (O : Outside W) (e : effects.Effect) (maps : Maps) (w : W) (r : Effect) (m : Machine) → m.maps ≡ maps → e ≡ effect_of r m → ComesTo O e maps w r m w
comes_to O e maps w Stuck m same is = (is, same, refl)
comes_to {W} O e maps w Next m same is =
    let Goes : effects.Effect → Type 0 = λ x. GoesOn O x w m w in subst Goes (sym is) (refl, refl)
comes_to O e maps w Jumped m same is = (is, same, refl)
comes_to O e maps w (Ended n) m same is = (is, same, refl)
