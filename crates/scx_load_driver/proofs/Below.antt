-- Lists by a test, one number further, and lists by tests that answer alike.
use Rattle.std.proofs.Common.{◌≡◌, ℕ, zero, suc, ◌+◌, ◌<◌, ◌≤◌, ◌⊎◌, inl, inr, Bool, true, false, List, [], ◌∷◌, ◌++◌, length, set, get_or, cond, refl, sym, ap, ◌∙◌, add-one, arith}
use Rattle.std.proofs.lemmas.Bool.{cases_eq}
use Rattle.std.proofs.lemmas.List.{append-nil, length-set, get_or-set_same, get_or-set_other, set-get_or}
use Rattle.scx_sched_machine.specs.declared.events.Event.{Event}
use Rattle.scx_load_driver.specs.Blocks.{events_below, set_below}

-- a number that passes adds its event
pub events_push : (n : ℕ) (test : ℕ → Bool) (event : ℕ → Event) → test n ≡ true → events_below (n + 1) test event ≡ events_below n test event ++ event n ∷ []
events_push n test event e = rw (add-one, e) refl

-- one that doesn't adds none
pub events_skip : (n : ℕ) (test : ℕ → Bool) (event : ℕ → Event) → test n ≡ false → events_below (n + 1) test event ≡ events_below n test event
events_skip n test event e = rw (add-one, e) (append-nil (events_below n test event))

-- events by tests that answer alike are the same
pub events_alike : (n : ℕ) (f g : ℕ → Bool) (event : ℕ → Event) → ((t : ℕ) → t < n → f t ≡ g t) → events_below n f event ≡ events_below n g event
events_alike zero f g event h = refl
events_alike (suc n) f g event h =
    ap (λ b. events_below n f event ++ cond b (event n ∷ []) []) (h n (omega arith))
    ∙ ap (λ es. es ++ cond (g n) (event n ∷ []) []) (events_alike n f g event (λ t l. h t (omega (arith, l))))

-- where none passes there is no event
pub no_events : (n : ℕ) (test : ℕ → Bool) (event : ℕ → Event) → ((t : ℕ) → t < n → test t ≡ false) → events_below n test event ≡ []
no_events zero test event h = refl
no_events (suc n) test event h = rw (h n (omega arith), no_events n test event (λ t l. h t (omega (arith, l)))) refl

-- between two numbers between which none passes there is no event
pub events_between : (a b : ℕ) (test : ℕ → Bool) (event : ℕ → Event) → a ≤ b → ((t : ℕ) → a ≤ t → t < b → test t ≡ false) → events_below b test event ≡ events_below a test event
events_between a zero test event up h = let same : zero ≡ a = omega (arith, up) in ap (λ k. events_below k test event) same
events_between a (suc b) test event up h = go (cases_eq a (suc b)) (λ l. events_between a b test event l (λ t from below. h t from (omega (arith, below))))
  where
    go : (a ≡ suc b) ⊎ (a ≡ suc b → ⊥) → (a ≤ b → events_below b test event ≡ events_below a test event) → events_below (suc b) test event ≡ events_below a test event
    go (inl e) before = ap (λ k. events_below k test event) (sym e)
    go (inr d) before =
        ap (λ x. events_below b test event ++ cond x (event b ∷ []) []) (h b (omega (arith, up, d)) (omega arith))
        ∙ append-nil (events_below b test event)
        ∙ before (omega (arith, up, d))

module _ {A : Type 0} where
  -- between two numbers between which none passes nothing is set
  pub sets_between : (a b : ℕ) (test : ℕ → Bool) (value : ℕ → A) (xs : List A) → a ≤ b → ((t : ℕ) → a ≤ t → t < b → test t ≡ false) → set_below b test value xs ≡ set_below a test value xs
  sets_between a zero test value xs up h = let same : zero ≡ a = omega (arith, up) in ap (λ k. set_below k test value xs) same
  sets_between a (suc b) test value xs up h = go (cases_eq a (suc b)) (λ l. sets_between a b test value xs l (λ t from below. h t from (omega (arith, below))))
    where
      go : (a ≡ suc b) ⊎ (a ≡ suc b → ⊥) → (a ≤ b → set_below b test value xs ≡ set_below a test value xs) → set_below (suc b) test value xs ≡ set_below a test value xs
      go (inl e) before = ap (λ k. set_below k test value xs) (sym e)
      go (inr d) before =
          ap (λ x. cond x (set (set_below b test value xs) b (value b)) (set_below b test value xs)) (h b (omega (arith, up, d)) (omega arith))
          ∙ before (omega (arith, up, d))

  -- a number that passes is set
  pub set_push : (n : ℕ) (test : ℕ → Bool) (value : ℕ → A) (xs : List A) → test n ≡ true → set_below (n + 1) test value xs ≡ set (set_below n test value xs) n (value n)
  set_push n test value xs e = rw (add-one, e) refl

  -- one that doesn't isn't
  pub set_skip : (n : ℕ) (test : ℕ → Bool) (value : ℕ → A) (xs : List A) → test n ≡ false → set_below (n + 1) test value xs ≡ set_below n test value xs
  set_skip n test value xs e = rw (add-one, e) refl

  -- the list stays as long
  pub length_set_below : (n : ℕ) (test : ℕ → Bool) (value : ℕ → A) (xs : List A) → length (set_below n test value xs) ≡ length xs
  length_set_below zero test value xs = refl
  length_set_below (suc n) test value xs = go (test n) (length_set_below n test value xs)
    where
      go : (b : Bool) → length (set_below n test value xs) ≡ length xs → length (cond b (set (set_below n test value xs) n (value n)) (set_below n test value xs)) ≡ length xs
      go true e = length-set (set_below n test value xs) n (value n) ∙ e
      go false e = e

  -- lists by tests that answer alike are the same
  pub sets_alike : (n : ℕ) (f g : ℕ → Bool) (value : ℕ → A) (xs : List A) → ((t : ℕ) → t < n → f t ≡ g t) → set_below n f value xs ≡ set_below n g value xs
  sets_alike zero f g value xs h = refl
  sets_alike (suc n) f g value xs h =
      ap (λ b. cond b (set (set_below n f value xs) n (value n)) (set_below n f value xs)) (h n (omega arith))
      ∙ ap (λ ys. cond (g n) (set ys n (value n)) ys) (sets_alike n f g value xs (λ t l. h t (omega (arith, l))))

  -- a value that is there already changes nothing
  pub sets_nothing : (n : ℕ) (test : ℕ → Bool) (value : ℕ → A) (xs : List A) (d : A) → ((t : ℕ) → t < n → test t ≡ true → get_or xs t d ≡ value t) → set_below n test value xs ≡ xs
  sets_nothing zero test value xs d h = refl
  sets_nothing (suc n) test value xs d h = go (sets_nothing n test value xs d (λ t l. h t (omega (arith, l)))) (test n) refl
    where
      go : set_below n test value xs ≡ xs → (b : Bool) → test n ≡ b → cond b (set (set_below n test value xs) n (value n)) (set_below n test value xs) ≡ xs
      go before true e = ap (λ ys. set ys n (value n)) before ∙ ap (λ x. set xs n x) (sym (h n (omega arith) e)) ∙ set-get_or xs n d
      go before false e = before

  -- a number that wasn't come to yet keeps its value
  pub kept_above : (n k : ℕ) (test : ℕ → Bool) (value : ℕ → A) (xs : List A) (d : A) → n ≤ k → get_or (set_below n test value xs) k d ≡ get_or xs k d
  kept_above zero k test value xs d l = refl
  kept_above (suc n) k test value xs d l = go (kept_above n k test value xs d (omega (arith, l))) (test n)
    where
      go : get_or (set_below n test value xs) k d ≡ get_or xs k d → (b : Bool) → get_or (cond b (set (set_below n test value xs) n (value n)) (set_below n test value xs)) k d ≡ get_or xs k d
      go before true = get_or-set_other (set_below n test value xs) n k (value n) d (λ e. absurd (omega (arith, e, l))) ∙ before
      go before false = before

  -- and so does one that doesn't pass
  pub kept_out : (n k : ℕ) (test : ℕ → Bool) (value : ℕ → A) (xs : List A) (d : A) → test k ≡ false → get_or (set_below n test value xs) k d ≡ get_or xs k d
  kept_out zero k test value xs d e = refl
  kept_out (suc n) k test value xs d e = go (kept_out n k test value xs d e) (test n) refl
    where
      go : get_or (set_below n test value xs) k d ≡ get_or xs k d → (b : Bool) → test n ≡ b → get_or (cond b (set (set_below n test value xs) n (value n)) (set_below n test value xs)) k d ≡ get_or xs k d
      go before true x = get_or-set_other (set_below n test value xs) n k (value n) d (λ (s : k ≡ n). let y = sym e ∙ ap test s ∙ x in absurd (cc)) ∙ before
      go before false x = before

  -- one that passes has its new one
  pub set_here : (n k : ℕ) (test : ℕ → Bool) (value : ℕ → A) (xs : List A) (d : A) → k < n → k < length xs → test k ≡ true → get_or (set_below n test value xs) k d ≡ value k
  set_here zero k test value xs d l within e = absurd (omega (arith, l))
  set_here (suc n) k test value xs d l within e = go (cases_eq k n) (test n) refl (λ m. set_here n k test value xs d m within e)
    where
      go : (k ≡ n) ⊎ (k ≡ n → ⊥) → (b : Bool) → test n ≡ b → (k < n → get_or (set_below n test value xs) k d ≡ value k) → get_or (cond b (set (set_below n test value xs) n (value n)) (set_below n test value xs)) k d ≡ value k
      go (inl same) true x before = rw same (get_or-set_same (set_below n test value xs) n (value n) d (omega (arith, length_set_below n test value xs, within, same)))
      go (inl same) false x before = let y = sym e ∙ ap test same ∙ x in absurd (cc)
      go (inr other) true x before = get_or-set_other (set_below n test value xs) n k (value n) d other ∙ before (omega (arith, l, other))
      go (inr other) false x before = before (omega (arith, l, other))

  -- between two numbers between which each one that passes has its value already nothing changes
  pub sets_kept : (a b : ℕ) (test : ℕ → Bool) (value : ℕ → A) (xs : List A) (d : A) → a ≤ b → ((t : ℕ) → a ≤ t → t < b → get_or xs t d ≡ value t) → set_below b test value xs ≡ set_below a test value xs
  sets_kept a zero test value xs d up h = let same : zero ≡ a = omega (arith, up) in ap (λ k. set_below k test value xs) same
  sets_kept a (suc b) test value xs d up h = go (cases_eq a (suc b)) (λ l. sets_kept a b test value xs d l (λ t from below. h t from (omega (arith, below))))
    where
      stays : get_or (set_below b test value xs) b d ≡ value b → (x : Bool) → cond x (set (set_below b test value xs) b (value b)) (set_below b test value xs) ≡ set_below b test value xs
      stays e true = ap (λ v. set (set_below b test value xs) b v) (sym e) ∙ set-get_or (set_below b test value xs) b d
      stays e false = refl

      go : (a ≡ suc b) ⊎ (a ≡ suc b → ⊥) → (a ≤ b → set_below b test value xs ≡ set_below a test value xs) → set_below (suc b) test value xs ≡ set_below a test value xs
      go (inl e) before = ap (λ k. set_below k test value xs) (sym e)
      go (inr n) before =
          stays (kept_above b b test value xs d (omega arith) ∙ h b (omega (arith, up, n)) (omega arith)) (test b)
          ∙ before (omega (arith, up, n))
