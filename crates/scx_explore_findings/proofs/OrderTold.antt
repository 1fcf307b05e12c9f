-- The numbers of tasks ahead of each task of a queue tell the order in which they leave it.
use Rattle.std.proofs.Common.{◌≡◌, ℕ, zero, suc, ◌+◌, ◌<◌, ◌≤◌, ◌<ℤ◌, ◌≤ℤ◌, ℤ, Bool, true, false, cond, ◌==◌, ◌||◌, int_lt, List, [], ◌∷◌, length, get_or, count_by, min, Option, Some, None, option_map, ◌⊎◌, inl, inr, refl, sym, ap, ◌∙◌, subst, arith, ⊎_elim}
use Rattle.std.proofs.lemmas.Bool.{and_parts, and_from, cases_order, eq-eqb, eqb-true, lt-ltb, or_left}
use Rattle.std.proofs.lemmas.Int.{ints, by_lt_z}
use Rattle.std.proofs.lemmas.List.Sums.{sum_by-cons}
use Rattle.scx_dsq.specs.declared.entries.Entry.{Entry}
use Rattle.scx_dsq.specs.Entries.{key_of, turn, is_before}
use Rattle.scx_dsq.specs.Queues.{QueueState, entry_of}
use Rattle.scx_dsq.specs.Laws.{HasOwnStamps}
use Rattle.scx_dsq.proofs.Orders.{before-trans, before-asym, one_turn}
use Rattle.scx_explore_states.specs.Rows.{is_ahead, ahead_of}
use Rattle.scx_explore_findings.specs.QueueOrder.{unnumbered, place_in, leads}
use Rattle.scx_explore_findings.proofs.SameQueues.{none_is_none, told_queue}

-- ---- counts

-- true is yes
abbrev IsYes : Bool → Type 0
IsYes true = Unit {0}
IsYes false = ⊥

no_isnt_yes : false ≡ true → ⊥
no_isnt_yes e = subst IsYes (sym e) tt

module _ (f g : Option Entry → Bool) (all : (o : Option Entry) → f o ≡ true → g o ≡ true) where
  one_at_most : (o : Option Entry) → cond (f o) 1 0 ≤ cond (g o) 1 0
  one_at_most o = go (f o) (g o) (all o)
    where
      go : (b c : Bool) → (b ≡ true → c ≡ true) → cond b 1 0 ≤ cond c 1 0
      go true true k = omega arith
      go true false k = absurd (no_isnt_yes (k refl))
      go false true k = omega arith
      go false false k = omega arith

  -- what holds wherever another does holds as often at least
  as_often : (xs : List (Option Entry)) → count_by f xs ≤ count_by g xs
  as_often [] = omega arith
  as_often (x ∷ xs) =
      omega (arith, sum_by-cons (λ o. cond (f o) 1 0) x xs, sum_by-cons (λ o. cond (g o) 1 0) x xs, one_at_most x, as_often xs)

  -- and more often where the other one doesn't hold somewhere
  more_often : (xs : List (Option Entry)) (k : ℕ) → k < length xs → f (get_or xs k None) ≡ false → g (get_or xs k None) ≡ true → count_by f xs < count_by g xs
  more_often [] k l not_so so = absurd (omega (arith, l))
  more_often (x ∷ xs) zero l not_so so =
      let here : ◌≡◌ {A = ℕ} (cond (f x) 1 0) 0 = ap (λ (b : Bool). cond b 1 0) not_so in
      let there : ◌≡◌ {A = ℕ} (cond (g x) 1 0) 1 = ap (λ (b : Bool). cond b 1 0) so in
      omega (arith, sum_by-cons (λ o. cond (f o) 1 0) x xs, sum_by-cons (λ o. cond (g o) 1 0) x xs, here, there, as_often xs)
  more_often (x ∷ xs) (suc k) l not_so so =
      let few : k < length xs = omega (arith, l) in
      omega (arith, sum_by-cons (λ o. cond (f o) 1 0) x xs, sum_by-cons (λ o. cond (g o) 1 0) x xs, one_at_most x, more_often xs k few not_so so)

-- all of a list
all_count : (xs : List (Option Entry)) → count_by (λ (o : Option Entry). true) xs ≡ length xs
all_count [] = refl
all_count (x ∷ xs) = omega (arith, sum_by-cons (λ (o : Option Entry). 1) x xs, all_count xs)

-- ---- the order of two tasks

-- no task leads itself
leads_not_itself : (o : Option Entry) → leads o o ≡ false
leads_not_itself None = refl
leads_not_itself (Some p) = go (leads (Some p) (Some p)) refl
  where
    go : (b : Bool) → leads (Some p) (Some p) ≡ b → b ≡ false
    go false e = refl
    go true e =
        let before = (and_parts (p.queue == p.queue) (is_before p p) e).1 in
        sym before ∙ before-asym p p before

leads_on : (o x y : Option Entry) → leads o x ≡ true → leads x y ≡ true → leads o y ≡ true
leads_on None x y e f = absurd (no_isnt_yes e)
leads_on (Some p) None y e f = absurd (no_isnt_yes e)
leads_on (Some p) (Some q) None e f = absurd (no_isnt_yes f)
leads_on (Some p) (Some q) (Some r) e f =
    let a = and_parts (p.queue == q.queue) (is_before p q) e in
    let b = and_parts (q.queue == r.queue) (is_before q r) f in
    and_from (p.queue == r.queue) (is_before p r) (eq-eqb p.queue r.queue (eqb-true p.queue q.queue a.0 ∙ eqb-true q.queue r.queue b.0)) (before-trans p q r a.1 b.1)

-- of two in one queue with stamps of their own one leads the other
one_leads : (p q : Entry) → p.queue ≡ q.queue → (p.stamp ≡ q.stamp → ⊥) → (leads (Some p) (Some q) ≡ true) ⊎ (leads (Some q) (Some p) ≡ true)
one_leads p q same apart =
    ⊎_elim by_turns
    (⊎_elim
    (λ (less : key_of p.rank < key_of q.rank). inl (and_from (p.queue == q.queue) (is_before p q) (eq-eqb p.queue q.queue same) (or_left _ _ (lt-ltb _ _ less))))
    (λ (more : key_of q.rank < key_of p.rank). inr (and_from (q.queue == p.queue) (is_before q p) (eq-eqb q.queue p.queue (sym same)) (or_left _ _ (lt-ltb _ _ more)))))
    (cases_order (key_of p.rank) (key_of q.rank))
  where
    right : (x y : Bool) → y ≡ true → (x || y) ≡ true
    right true y e = refl
    right false y e = e

    earlier : (a b : ℤ) → a <ℤ b → int_lt a b ≡ true
    earlier a b lt = go (int_lt a b) refl
      where
        go : (c : Bool) → int_lt a b ≡ c → int_lt a b ≡ true
        go true e = e
        go false e = absurd (omega (arith, ints, e, lt))

    later : (a b : ℤ) → (a ≡ b → ⊥) → b ≤ℤ a → b <ℤ a
    later a b n le = by_lt_z {P = b <ℤ a} b a (λ lt. lt) (λ (ge : a ≤ℤ b). absurd (n (omega (arith, ints, le, ge))))

    by_turns : key_of p.rank ≡ key_of q.rank → (leads (Some p) (Some q) ≡ true) ⊎ (leads (Some q) (Some p) ≡ true)
    by_turns keys =
        by_lt_z {P = (leads (Some p) (Some q) ≡ true) ⊎ (leads (Some q) (Some p) ≡ true)} (turn p) (turn q)
        (λ lt. inl (and_from (p.queue == q.queue) (is_before p q) (eq-eqb p.queue q.queue same) (right _ _ (and_from _ _ (eq-eqb _ _ keys) (earlier (turn p) (turn q) lt)))))
        (λ ge. inr (and_from (q.queue == p.queue) (is_before q p) (eq-eqb q.queue p.queue (sym same)) (right _ _ (and_from _ _ (eq-eqb _ _ (sym keys)) (earlier (turn q) (turn p) (later (turn p) (turn q) (λ e. apart (one_turn p.rank q.rank p.stamp q.stamp e)) ge))))))

-- ---- eight tasks

-- where each of the first eight tasks waits
abbrev pub eight_of : QueueState → List (Option Entry)
eight_of s =
    entry_of s 0 ∷ entry_of s 1 ∷ entry_of s 2 ∷ entry_of s 3 ∷ entry_of s 4 ∷ entry_of s 5 ∷ entry_of s 6 ∷ entry_of s 7 ∷ []

-- an entry of that list is that of the task
pub at_eight : (s : QueueState) (k : ℕ) → k < 8 → get_or (eight_of s) k None ≡ entry_of s k
at_eight s zero l = refl
at_eight s (suc zero) l = refl
at_eight s (suc (suc zero)) l = refl
at_eight s (suc (suc (suc zero))) l = refl
at_eight s (suc (suc (suc (suc zero)))) l = refl
at_eight s (suc (suc (suc (suc (suc zero))))) l = refl
at_eight s (suc (suc (suc (suc (suc (suc zero)))))) l = refl
at_eight s (suc (suc (suc (suc (suc (suc (suc zero))))))) l = refl
at_eight s (suc (suc (suc (suc (suc (suc (suc (suc k)))))))) l = absurd (omega (arith, l))

-- how many lead that one
abbrev leaders : QueueState → Option Entry → ℕ
leaders s o = count_by (λ x. leads x o) (eight_of s)

module _ (s : QueueState) where
  -- fewer lead the one that leads
  fewer : (u v : ℕ) → u < 8 → leads (entry_of s u) (entry_of s v) ≡ true → leaders s (entry_of s u) < leaders s (entry_of s v)
  fewer u v l e =
      more_often (λ x. leads x (entry_of s u)) (λ x. leads x (entry_of s v)) (λ x lead. leads_on x (entry_of s u) (entry_of s v) lead e) (eight_of s) u l
      (ap (λ (o : Option Entry). leads o (entry_of s u)) (at_eight s u l) ∙ leads_not_itself (entry_of s u))
      (ap (λ (o : Option Entry). leads o (entry_of s v)) (at_eight s u l) ∙ e)

  -- at most seven lead one of eight
  seven : (u : ℕ) → u < 8 → leaders s (entry_of s u) ≤ 7
  seven u l =
      let less = more_often (λ x. leads x (entry_of s u)) (λ x. true) (λ x lead. refl) (eight_of s) u l (ap (λ (o : Option Entry). leads o (entry_of s u)) (at_eight s u l) ∙ leads_not_itself (entry_of s u)) refl in
      omega (arith, less, all_count (eight_of s))

-- ---- what is written of those ahead

same_count : (f g : Option Entry → Bool) → ((o : Option Entry) → f o ≡ g o) → (xs : List (Option Entry)) → count_by f xs ≡ count_by g xs
same_count f g e [] = refl
same_count f g e (x ∷ xs) =
    sum_by-cons (λ o. cond (f o) 1 0) x xs
    ∙ (ap (λ (b : Bool). cond b 1 0 + count_by f xs) (e x)
    ∙ (ap (λ (i : ℕ). cond (g x) 1 0 + i) (same_count f g e xs)
    ∙ sym (sum_by-cons (λ o. cond (g o) 1 0) x xs)))

no_leaders : (xs : List (Option Entry)) → count_by (λ x. leads x None) xs ≡ 0
no_leaders [] = refl
no_leaders (x ∷ xs) =
    let here : ◌≡◌ {A = ℕ} (cond (leads x None) 1 0) 0 = ap (λ (b : Bool). cond b 1 0) (leads_nobody x) in
    omega (arith, sum_by-cons (λ o. cond (leads o None) 1 0) x xs, here, no_leaders xs)
  where
    leads_nobody : (o : Option Entry) → leads o None ≡ false
    leads_nobody None = refl
    leads_nobody (Some p) = refl

ahead_leads : (p : Entry) (o : Option Entry) → is_ahead o p ≡ leads o (Some p)
ahead_leads p None = refl
ahead_leads p (Some q) = refl

ahead_is : (xs : List (Option Entry)) (o : Option Entry) → ahead_of xs o ≡ min (count_by (λ x. leads x o) xs) 7
ahead_is xs None = ap (λ (n : ℕ). min n 7) (sym (no_leaders xs))
ahead_is xs (Some p) = ap (λ (n : ℕ). min n 7) (same_count (λ o. is_ahead o p) (λ o. leads o (Some p)) (ahead_leads p) xs)

min_tells : (a b : ℕ) → a ≤ 7 → b ≤ 7 → min a 7 ≡ min b 7 → a ≡ b
min_tells a b l m e = omega (arith, l, m, e)

-- ---- two states of the queues

-- where the first leads, of places that are the same
leads_there : (a b x y : Option Entry) → option_map unnumbered a ≡ option_map unnumbered x → option_map unnumbered b ≡ option_map unnumbered y → ((p q : Entry) → x ≡ Some p → y ≡ Some q → p.stamp ≡ q.stamp → ⊥) → leads a b ≡ true → (leads y x ≡ true → ⊥) → leads x y ≡ true
leads_there None b x y ax by apart e back = absurd (no_isnt_yes e)
leads_there (Some p) None x y ax by apart e back = absurd (no_isnt_yes e)
leads_there (Some p) (Some q) None y ax by apart e back = absurd (none_is_none (unnumbered p) (sym ax))
leads_there (Some p) (Some q) (Some x) None ax by apart e back = absurd (none_is_none (unnumbered q) (sym by))
leads_there (Some p) (Some q) (Some x) (Some y) ax by apart e back =
    let same = eqb-true p.queue q.queue (and_parts (p.queue == q.queue) (is_before p q) e).0 in
    ⊎_elim (λ (is : leads (Some x) (Some y) ≡ true). is) (λ (is : leads (Some y) (Some x) ≡ true). absurd (back is))
    (one_leads x y (sym (told_queue p x ax) ∙ (same ∙ told_queue q y by)) (apart x y refl refl))

module _ (s t : QueueState) (own : HasOwnStamps t) (places : (u : ℕ) → place_in s u ≡ place_in t u) (ahead : (u : ℕ) → u < 8 → ahead_of (eight_of s) (entry_of s u) ≡ ahead_of (eight_of t) (entry_of t u)) where
  -- as many lead a task in both
  leaders_same : (u : ℕ) → u < 8 → leaders s (entry_of s u) ≡ leaders t (entry_of t u)
  leaders_same u l =
      min_tells (leaders s (entry_of s u)) (leaders t (entry_of t u)) (seven s u l) (seven t u l)
      (sym (ahead_is (eight_of s) (entry_of s u)) ∙ (ahead u l ∙ ahead_is (eight_of t) (entry_of t u)))

  -- a task that leads another in the first state does so in the second one
  order_there : (u v : ℕ) → u < 8 → v < 8 → leads (entry_of s u) (entry_of s v) ≡ true → leads (entry_of t u) (entry_of t v) ≡ true
  order_there u v l m e =
      leads_there (entry_of s u) (entry_of s v) (entry_of t u) (entry_of t v) (places u) (places v) apart e
      (λ back. absurd (omega (arith, fewer s u v l e, fewer t v u m back, leaders_same u l, leaders_same v m)))
    where
      other : u ≡ v → ⊥
      other is = no_isnt_yes (sym (leads_not_itself (entry_of s u)) ∙ (ap (λ (k : ℕ). leads (entry_of s u) (entry_of s k)) is ∙ e))

      apart : (p q : Entry) → entry_of t u ≡ Some p → entry_of t v ≡ Some q → p.stamp ≡ q.stamp → ⊥
      apart p q a b = own u v p q other a b

-- so of eight tasks each leads the same ones in both
pub order_told : (s t : QueueState) → HasOwnStamps s → HasOwnStamps t → ((u : ℕ) → place_in s u ≡ place_in t u) → ((u : ℕ) → u < 8 → ahead_of (eight_of s) (entry_of s u) ≡ ahead_of (eight_of t) (entry_of t u)) → (u v : ℕ) → u < 8 → v < 8 → leads (entry_of s u) (entry_of s v) ≡ leads (entry_of t u) (entry_of t v)
order_told s t own own' places ahead u v l m = go (leads (entry_of s u) (entry_of s v)) (leads (entry_of t u) (entry_of t v)) refl refl
  where
    go : (b c : Bool) → leads (entry_of s u) (entry_of s v) ≡ b → leads (entry_of t u) (entry_of t v) ≡ c → b ≡ c
    go true c e f = sym (order_there s t own' places ahead u v l m e) ∙ f
    go false true e f = sym e ∙ order_there t s own (λ k. sym (places k)) (λ k small. sym (ahead k small)) u v l m f
    go false false e f = refl
