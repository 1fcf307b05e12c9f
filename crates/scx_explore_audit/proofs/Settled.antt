-- Facts of a table's states, in the order in which the audit reads them.
use Rattle.std.proofs.Common.{◌≡◌, ℕ, zero, suc, ◌+◌, ◌<◌, ◌≤◌, List, [], ◌∷◌, length, take, set, get_or, All, Bool, true, false, None, Result, Ok, Err, refl, sym, ap, ◌∙◌, subst, arith, ⊎_elim}
use Rattle.std.specs.Prelude.{IfOk, IfSome}
use Rattle.std.proofs.lemmas.Bool.{cases_eq}
use Rattle.std.proofs.lemmas.List.{get_or-set_other, get_or-set_same, take_all}
use Rattle.std.proofs.lemmas.List.Elements.{All-nil}
use Rattle.scx_sched_machine.specs.declared.events.Event.{Event}
use Rattle.scx_sched.specs.Sim.{SimState}
use Rattle.scx_load_driver.specs.Runs.{AreAccepted}
use Rattle.scx_explore_findings.specs.Path.{PathState, machine_of, went_back}
use Rattle.scx_explore_states.specs.declared.form.Form.{Form}
use Rattle.scx_explore_machines.specs.Seen.{state_at}
use Rattle.scx_explore_states.specs.Written.{IsWritten}
use Rattle.scx_explore_audit.specs.Claims.{IsTried}
use Rattle.scx_explore_audit.specs.Closed.{Claim, HasRoomForRows, IsMet, IsWithin, LeadsBack, IsDone, IsSettled, IsClosed, FollowsRuns, depth_at}
use Rattle.scx_explore_audit.specs.Tried.{IsTriedIn}
use Rattle.scx_explore_audit.specs.Laws.{NoneIn}
use Rattle.scx_explore_audit.proofs.Covered.{closed_tables_cover}

-- ---- a state

-- the state is written as the words of that number, and no move leads out of the table
pub done : (c : Claim) (p : PathState) (s : SimState) (xs : List ℕ) (k n : ℕ) → All (IsTried p.root) p.events → AreAccepted p.root p.events → length p.events < p.room → (machine_of p).state.world.ejected ≡ None → s ≡ machine_of p → xs ≡ state_at c.kept k → IsWritten c.form c.ids xs s → n ≡ depth_at c k + 1 → ((es : List Event) → IsTriedIn c.form.slices c.moves p.root (machine_of p) es → LeadsBack c n (machine_of p) es) → HasRoomForRows c.form c.moves p.root p.room (length p.events) (machine_of p) → (c.form.waits ≡ false → s.state.world.clock < s.state.policy.timeout_ms) → IsDone c p.root p.room k
done c p s xs k n tried accepted few force here is written behind moves fits early = record {
  state = machine_of p;
  near = record { events = p.events; tried = tried; accepted = accepted; state = refl; force = force; few = few };
  written = subst (λ (x : SimState). IsWritten c.form c.ids (state_at c.kept k) x) here (subst (λ (ys : List ℕ). IsWritten c.form c.ids ys s) is written);
  fits = fits;
  early = subst (λ (x : SimState). c.form.waits ≡ false → x.state.world.clock < x.state.policy.timeout_ms) here early;
  moves = λ es move. subst (λ (m : ℕ). LeadsBack c m (machine_of p) es) behind (moves es move);
}

-- a list that leads to the state may have no more moves
pub settled_past : (c : Claim) (root : SimState) (room k : ℕ) → (IsWithin c.limit (depth_at c k) → ⊥) → IsSettled c root room k
settled_past c root room k past = λ within. absurd (past within)

-- the same from where the root and the room are those
pub settled_at : (c : Claim) (r s : SimState) (n m k : ℕ) → r ≡ s → n ≡ m → IsSettled c r n k → IsSettled c s m k
settled_at c r s n m k root room here = λ within.
    subst (λ (j : ℕ). IsDone c s j k) room (subst (λ (x : SimState). IsDone c x n k) root (here within))

-- ---- what is kept

-- words that are those of the state, and are kept under that number
pub met : (c : Claim) (n k : ℕ) (s : SimState) (xs ys : List ℕ) → ys ≡ xs → k < c.kept.count → state_at c.kept k ≡ ys → IfSome c.limit (λ limit. depth_at c k ≤ n) → IsWritten c.form c.ids xs s → IsMet c n s
met c n k s xs ys is there same depth written = record {
  number = k;
  there = there;
  depth = depth;
  written = subst (λ (l : List ℕ). IsWritten c.form c.ids l s) (sym (same ∙ is)) written;
}

-- the same of a state that is this one
pub met_at : (c : Claim) (n : ℕ) (s t : SimState) → s ≡ t → (IsWithin c.limit n → IsMet c n s) → IsWithin c.limit n → IsMet c n t
met_at c n s t is here within = subst (λ (x : SimState). IsMet c n x) is (here within)

-- and of words that are those
pub written_as : (f : Form) (ids : List ℕ) (s : SimState) (xs ys zs : List ℕ) → IsWritten f ids xs s → ys ≡ xs → ys ≡ zs → IsWritten f ids zs s
written_as f ids s xs ys zs written is same = subst (λ (l : List ℕ). IsWritten f ids l s) (sym is ∙ same) written

-- ---- marks

-- no mark is set
pub none_marked : (P : ℕ → Type 0) (ms : List Bool) → All (λ m. m ≡ false) ms → (k : ℕ) → get_or ms k false ≡ true → P k
none_marked P ms clear k is = absurd (both (get_or ms k false) (at ms k (λ j l. clear j false l)) is)
  where
    both : (b : Bool) → b ≡ false → b ≡ true → ⊥
    both b x y = absurd (cc)

    at : (xs : List Bool) (k : ℕ) → ((j : ℕ) → j < length xs → get_or xs j false ≡ false) → get_or xs k false ≡ false
    at [] k h = refl
    at (x ∷ xs) zero h = h 0 (omega arith)
    at (x ∷ xs) (suc k) h = at xs k (λ j l. h (suc j) (omega (arith, l)))

-- one more mark is set, or not
pub marked : (P : ℕ → Type 0) (n : ℕ) (b : Bool) (ms : List Bool) → n < length ms → ((k : ℕ) → get_or ms k false ≡ true → P k) → (b ≡ true → P n) → (k : ℕ) → get_or (set ms n b) k false ≡ true → P k
marked P n b ms there before here k is =
    ⊎_elim
    (λ (e : k ≡ n).
    subst (λ (j : ℕ). P j) (sym e)
    (here (sym (get_or-set_same ms n b false there) ∙ subst (λ (j : ℕ). get_or (set ms n b) j false ≡ true) e is)))
    (λ (e : k ≡ n → ⊥). before k (sym (get_or-set_other ms n k b false e) ∙ is))
    (cases_eq k n)

-- one more is set
pub one_marked : (P : ℕ → Type 0) (n : ℕ) (ms : List Bool) → ((k : ℕ) → get_or ms k false ≡ true → P k) → P n → (k : ℕ) → get_or (set ms n true) k false ≡ true → P k
one_marked P n ms before here k is =
    ⊎_elim (λ (e : k ≡ n). subst (λ (j : ℕ). P j) (sym e) here)
    (λ (e : k ≡ n → ⊥). before k (sym (get_or-set_other ms n k true false e) ∙ is))
    (cases_eq k n)

-- the same marks are
pub marked_same : (P : ℕ → Type 0) (ms ns : List Bool) → ns ≡ ms → ((k : ℕ) → get_or ms k false ≡ true → P k) → (k : ℕ) → get_or ns k false ≡ true → P k
marked_same P ms ns is before = subst (λ (xs : List Bool). (k : ℕ) → get_or xs k false ≡ true → P k) (sym is) before

-- where a list that leads to a state that is marked may have no more moves, each of these is settled
pub marked_past : (c : Claim) (root : SimState) (room : ℕ) (ms : List Bool) → ((k : ℕ) → get_or ms k false ≡ true → IsWithin c.limit (depth_at c k) → ⊥) → (k : ℕ) → get_or ms k false ≡ true → IsSettled c root room k
marked_past c root room ms past k is = settled_past c root room k (past k is)

-- all are
pub all_marked : (P : ℕ → Type 0) (n : ℕ) (ms : List Bool) → length ms ≡ n → ((k : ℕ) → get_or ms k false ≡ true → P k) → All (λ m. m ≡ true) ms → (k : ℕ) → k < n → P k
all_marked P n ms many done set k few = done k (set k false (omega (arith, many, few)))

-- ---- the table

-- a path that is back at its beginning has no event
pub begun_tried : (p q : PathState) → q ≡ went_back p 0 → All (IsTried q.root) q.events
begun_tried p q is = subst (λ (x : PathState). All (IsTried x.root) x.events) (sym is) (All-nil (IsTried p.root))

-- where each state is settled, the table is closed
pub closed : (c : Claim) (p q : PathState) → q ≡ went_back p 0 → (machine_of q).state.world.ejected ≡ None → (IsWithin c.limit 0 → IsMet c 0 (machine_of q)) → ((k : ℕ) → k < c.kept.count → IsSettled c q.root q.room k) → IsClosed c p.root p.room
closed c p q is force met each =
    let at : machine_of q ≡ p.root = ap machine_of is in
    record {
      force = subst (λ (s : SimState). s.state.world.ejected ≡ None) at force;
      first = met_at c 0 (machine_of q) p.root at met;
      each = λ k few. settled_at c q.root p.root q.room p.room k (ap (λ (x : PathState). x.root) is) (ap (λ (x : PathState). x.room) is) (each k few);
    }

-- ---- lists

-- what holds of all that were taken holds of all, where no more are left
pub all_taken : {X : Type 0} (P : X → Type 0) (xs : List X) (n : ℕ) → length xs ≤ n → All P (take n xs) → All P xs
all_taken {X} P xs n past all = subst (λ (ys : List X). All P ys) (take_all n xs past) all

-- ---- the answer

-- where the answer is that the table is closed, no list shows anything
pub told : {E : Type 0} (c : Claim) (root : SimState) (room : ℕ) (r : Result Bool E) → IfOk r (λ b. b ≡ true → IsClosed c root room) → IfOk r (λ b. b ≡ true → FollowsRuns c.form c.ids c.moves c.sorts root room → NoneIn c.moves c.limit c.sorts root)
told c root room (Ok b) shut = λ is follows. closed_tables_cover c root room follows (shut is)
told c root room (Err e) shut = tt

-- what holds in any case
pub in_any_case : {E : Type 0} (P : Type 0) (r : Result Bool E) → P → IfOk r (λ b. b ≡ true → P)
in_any_case P (Ok b) p = λ is. p
in_any_case P (Err e) p = tt

-- the same machine and room
pub closed_from : {E : Type 0} (c : Claim) (r s : SimState) (n m : ℕ) (x : Result Bool E) → r ≡ s → n ≡ m → IfOk x (λ b. b ≡ true → IsClosed c r n) → IfOk x (λ b. b ≡ true → IsClosed c s m)
closed_from c r s n m x root room shut =
    subst (λ (k : ℕ). IfOk x (λ b. b ≡ true → IsClosed c s k)) room (subst (λ (t : SimState). IfOk x (λ b. b ≡ true → IsClosed c t n)) root shut)
