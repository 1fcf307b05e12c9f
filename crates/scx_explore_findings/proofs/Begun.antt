-- Tasks that are idle in one state: where their slices are left out, and no others, two steps come to the same also where more are.
use Rattle.std.proofs.Common.{◌≡◌, ℕ, ◌&&◌, not, Bool, true, false, List, [], ◌∷◌, map, refl, sym, ap, ◌∙◌, inl, inr}
use Rattle.scx_sched_world.specs.World.{WorldState}
use Rattle.scx_sched_policy.specs.Policy.{PolicyState}
use Rattle.scx_sched_machine.specs.Steps.{State, CallMade, Stepped, with_world}
use Rattle.scx_explore_findings.specs.IdleSlices.{is_idle, is_put_nowhere, runs_on}
use Rattle.scx_explore_findings.proofs.IdleRecords.{bits}
use Rattle.scx_explore_findings.proofs.Omitting.{Omitted, omit, is_at_hand, in_call, omit_state, omit_call, omit_step, AreAmong, omit_more, omit_as}
use Rattle.scx_explore_findings.proofs.Helpers.{IsTold, any_among, told_among}
use Rattle.scx_explore_findings.proofs.Runs.{own_calls_more}
use Rattle.scx_explore_findings.proofs.Steps.{AskNone, Tells, Passes}
use Rattle.scx_dsq.specs.Queues.{entry_of}

-- ---- tasks that are idle in one state

first_so : (a b : Bool) → (a && b) ≡ true → a ≡ true
first_so true b e = refl
first_so false b e = e

of_both : (a b c : Bool) → (b ≡ true → c ≡ true) → (a && b) ≡ true → (a && c) ≡ true
of_both true b c is e = is e
of_both false b c is e = absurd (bits false e refl)

itself : (a b c : Bool) → c ≡ b → ((a && b) && c) ≡ (a && c)
itself true true c e = refl
itself true false c e = sym e
itself false b c e = refl

module _ (h : Omitted) (w : WorldState) where
  -- of those whose slices are left out the ones that are idle in that world
  abbrev pub here : Omitted
  here = record { parts = h.parts; idle = λ u. h.idle u && is_idle w u }

  among_here : AreAmong here.idle h.idle
  among_here u = first_so (h.idle u) (is_idle w u)

  -- in a world where the same tasks are idle the same is left out
  pub as_idle : (v : WorldState) → ((u : ℕ) → is_idle v u ≡ is_idle w u) → omit here v ≡ omit h v
  as_idle v e = omit_as h here.idle v (λ u. itself (h.idle u) (is_idle w u) (is_idle v u) (e u))

  more_calls : (cs : List CallMade) → map (omit_call h) (map (omit_call here) cs) ≡ map (omit_call h) cs
  more_calls [] = refl
  more_calls (c ∷ cs) =
      let fewer : AreAmong (in_call here c).idle (in_call h c).idle = λ u. of_both (not (is_at_hand c.callback c.arguments u)) (here.idle u) (h.idle u) (among_here u) in
      ap (λ (v : WorldState). record c { world = v } ∷ map (omit_call h) (map (omit_call here) cs)) (omit_more (in_call h c) (in_call here c).idle fewer c.world) ∙ ap (λ (ds : List CallMade). omit_call h c ∷ ds) (more_calls cs)

  -- leaving out more leaves out that
  more_step : (r : Stepped) → omit_step h (omit_step here r) ≡ omit_step h r
  more_step r =
      ap (λ (v : WorldState). record { state = with_world r.state v; notes = r.notes; calls = map (omit_call h) (map (omit_call here) r.calls) }) (omit_more h here.idle among_here r.state.world)
      ∙ ap (λ (cs : List CallMade). record { state = omit_state h r.state; notes = r.notes; calls = cs }) (more_calls r.calls)

  module _ (p : PolicyState) where
    calls_here : (cs : List CallMade) → AskNone h p cs → AskNone here p cs
    calls_here cs asks =
        own_calls_more (λ c. IsTold (in_call h c)) (λ c. IsTold (in_call here c))
        (λ c. told_among (in_call h c) (in_call here c).idle (λ u. of_both (not (is_at_hand c.callback c.arguments u)) (here.idle u) (h.idle u) (among_here u))) p cs asks

    tells_here : (r q : Stepped) → Tells h p r q → Tells here p r q
    tells_here r q (inl tells) = inl (record { unread = tells.unread; told = any_among here.idle h.idle among_here tells.told })
    tells_here r q (inr (inl a)) = inr (inl (calls_here r.calls a))
    tells_here r q (inr (inr a)) = inr (inr (calls_here q.calls a))

    -- two steps that come to the same but for the slices of those tasks come to the same
    pub follows : (r q : Stepped) → Passes here p r q → Passes h p r q
    follows r q x tells =
        let y = x (tells_here r q tells) in
        (sym (more_step r) ∙ ap (omit_step h) y.0 ∙ more_step q, y.1)

-- two states that are the same are so without the slices of tasks that are idle in the first one
module _ (h : Omitted) (s t : State) (same : omit_state h s ≡ omit_state h t) where
  pub same_here : omit_state (here h s.world) s ≡ omit_state (here h s.world) t
  same_here =
      ap (λ (v : WorldState). with_world s v) (as_idle h s.world s.world (λ u. refl)) ∙ same
      ∙ sym (ap (λ (v : WorldState). with_world t v) (as_idle h s.world t.world (λ u. sym (ap (λ (x : State). is_idle x.world u) same))))

  -- and no task runs of which a slice is left out then
  pub apart_here : (u : ℕ) → runs_on u s.world.cpus ≡ true → (here h s.world).idle u ≡ false
  apart_here u e = none (h.idle u) (is_idle s.world u) (ap (λ (b : Bool). not b && is_put_nowhere (entry_of s.world.queues u)) e)
    where
      none : (a b : Bool) → b ≡ false → (a && b) ≡ false
      none true b e = e
      none false b e = refl
