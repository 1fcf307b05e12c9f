-- Where the outside answers each query in one way each step leads to one state, so a run has one outcome.
use Rattle.std.proofs.Common.{◌≡◌, ℕ, zero, suc, refl, sym, ap, ◌∙◌}
use Rattle.scx_isa_semantics.specs.declared.values.Value.{Value}
use Rattle.scx_isa_semantics.specs.declared.callbacks.Callback.{Callback}
use Rattle.scx_isa_semantics.specs.Code.{Code}
use Rattle.scx_isa_semantics.specs.Machine.{Machine, start}
use Rattle.scx_isa_semantics.specs.Steps.{Outcome, Stuck, Goes, Asks, Ends, step}
use Rattle.scx_isa_semantics.specs.Runs.{Outside, LeadsTo, Leads, graph}
use Rattle.scx_isa_semantics.specs.Effects.{Query}
use Rattle.scx_isa_semantics.specs.Laws.{OneEnd, OneStuck, EndsOrGetsStuck}

-- the outside answers each query in one way
abbrev IsFunction : {W : Type 0} → Outside W → Type 0
IsFunction {W} O = (w : W) (q : Query) (v v' : Value) (w' w'' : W) → O w q v w' → O w q v' w'' → (v ≡ v') × (w' ≡ w'')

graph_is : {W : Type 0} (a : W → Query → Value) (b : W → Query → W) → IsFunction (graph a b)
graph_is a b w q v v' w' w'' o o' = (o.0 ∙ sym o'.0, o.1 ∙ sym o'.1)

-- no step leads on
abbrev IsFinal : Outcome → Type 0
IsFinal Stuck = Unit {0}
IsFinal (Goes t m) = ⊥
IsFinal (Asks q t go) = ⊥
IsFinal (Ends n) = Unit {0}

final_stays : {W : Type 0} (O : Outside W) (o : Outcome) (w : W) (t : ℕ) (k : Machine) (v : W) → IsFinal o → LeadsTo O o w t k v → ⊥
final_stays O Stuck w t k v f l = l
final_stays O (Goes s m) w t k v f l = f
final_stays O (Asks q s go) w t k v f l = f
final_stays O (Ends n) w t k v f l = l

one_step : {W : Type 0} (O : Outside W) → IsFunction O → (o : Outcome) (w : W) (t t' : ℕ) (k k' : Machine) (v v' : W)
    → LeadsTo O o w t k v → LeadsTo O o w t' k' v' → (t ≡ t') × (k ≡ k') × (v ≡ v')
one_step O f Stuck w t t' k k' v v' l l' = absurd l
one_step O f (Goes s m) w t t' k k' v v' l l' = (l.0 ∙ sym l'.0, l.1 ∙ sym l'.1, l.2 ∙ sym l'.2)
one_step O f (Asks q s go) w t t' k k' v v' l l' =
    let same = f w q l.0 l'.0 v v' l.1 l'.1 in
    (l.2 ∙ sym l'.2, l.3 ∙ ap go same.0 ∙ sym l'.3, same.1)
one_step O f (Ends n) w t t' k k' v v' l l' = absurd l

-- where a run ends
record Same {W : Type 0} (n n' s s' : ℕ) (m m' : Machine) (w w' : W) : Type 0 where
  steps : n ≡ n'
  slot : s ≡ s'
  state : m ≡ m'
  outside : w ≡ w'

more_steps : {W : Type 0} (n n' s s' : ℕ) (m m' : Machine) (w w' : W) → Same n n' s s' m m' w w' → Same (suc n) (suc n') s s' m m' w w'
more_steps n n' s s' m m' w w' same = record { steps = ap suc same.steps; slot = same.slot; state = same.state; outside = same.outside }

from_same : {W : Type 0} (O : Outside W) (c : Callback) (code : Code) (n a a' : ℕ) (b b' : Machine) (d d' : W) (t : ℕ) (k : Machine) (v : W)
    → a ≡ a' → b ≡ b' → d ≡ d' → Leads O c code n a' b' d' t k v → Leads O c code n a b d t k v
from_same O c code n a a' b b' d d' t k v p q r l = rw (p, q, r) l

one_end : {W : Type 0} (O : Outside W) → IsFunction O → (c : Callback) (code : Code) (n n' s : ℕ) (m : Machine) (w : W) (t t' : ℕ) (k k' : Machine) (v v' : W)
    → Leads O c code n s m w t k v → IsFinal (step c code t k)
    → Leads O c code n' s m w t' k' v' → IsFinal (step c code t' k')
    → Same n n' t t' k k' v v'
one_end O fn c code zero zero s m w t t' k k' v v' l f l' f' =
    record { steps = refl; slot = l.0 ∙ sym l'.0; state = l.1 ∙ sym l'.1; outside = l.2 ∙ sym l'.2 }
one_end O fn c code zero (suc n') s m w t t' k k' v v' l f l' f' =
    let here : IsFinal (step c code s m) = rw (l.0, l.1) at f in
    absurd (final_stays O (step c code s m) w l'.0 l'.1 l'.2 here l'.3)
one_end O fn c code (suc n) zero s m w t t' k k' v v' l f l' f' =
    let here : IsFinal (step c code s m) = rw (l'.0, l'.1) at f' in
    absurd (final_stays O (step c code s m) w l.0 l.1 l.2 here l.3)
one_end O fn c code (suc n) (suc n') s m w t t' k k' v v' l f l' f' =
    let same = one_step O fn (step c code s m) w l.0 l'.0 l.1 l'.1 l.2 l'.2 l.3 l'.3 in
    let behind = from_same O c code n' l.0 l'.0 l.1 l'.1 l.2 l'.2 t' k' v' same.0 same.1 same.2 l'.4 in
    more_steps n n' t t' k k' v v' (one_end O fn c code n n' l.0 l.1 l.2 t t' k k' v v' l.4 f behind f')

ends_final : (o : Outcome) (n : ℕ) → o ≡ Ends n → IsFinal o
ends_final o n e = rw e tt

stuck_final : (o : Outcome) → o ≡ Stuck → IsFinal o
stuck_final o e = rw e tt

same_answer : (n n' : ℕ) → Ends n ≡ Ends n' → n ≡ n'
same_answer n n' e = cc

-- two runs to the end agree
pub ends_once : (W : Type 0) → OneEnd W
ends_once W f g c code a maps w answer answer' steps steps' left left' v v' r r' =
    let same = one_end (graph f g) (graph_is f g) c code r.before r'.before 0 (start a maps) w r.slot r'.slot r.state r'.state v v' r.leads (ends_final _ _ r.ends) r'.leads (ends_final _ _ r'.ends) in
    let here : step c code r.slot r.state ≡ step c code r'.slot r'.state = ap (λ s. step c code s r.state) same.slot ∙ ap (λ k. step c code r'.slot k) same.state in
    let answers : Ends answer ≡ Ends answer' = sym r.ends ∙ here ∙ r'.ends in
    (same_answer answer answer' answers, r.length ∙ ap suc same.steps ∙ sym r'.length, r.left ∙ ap (λ (k : Machine). k.maps) same.state ∙ sym r'.left, same.outside)

-- two runs that get stuck agree
pub stuck_once : (W : Type 0) → OneStuck W
stuck_once W f g c code a maps w slot slot' steps steps' left left' v v' h h' =
    let same = one_end (graph f g) (graph_is f g) c code steps steps' 0 (start a maps) w slot slot' h.state h'.state v v' h.leads (stuck_final _ h.stuck) h'.leads (stuck_final _ h'.stuck) in
    (same.slot, same.steps, h.left ∙ ap (λ (k : Machine). k.maps) same.state ∙ sym h'.left, same.outside)

-- a run that ends doesn't get stuck
pub not_both : (W : Type 0) → EndsOrGetsStuck W
not_both W f g c code a maps w answer steps slot steps' left left' v v' r h =
    let same = one_end (graph f g) (graph_is f g) c code r.before steps' 0 (start a maps) w r.slot slot r.state h.state v v' r.leads (ends_final _ _ r.ends) h.leads (stuck_final _ h.stuck) in
    let here : step c code r.slot r.state ≡ step c code slot h.state = ap (λ s. step c code s r.state) same.slot ∙ ap (λ k. step c code slot k) same.state in
    let bad : Ends answer ≡ Stuck = sym r.ends ∙ here ∙ h.stuck in
    absurd (cc)
