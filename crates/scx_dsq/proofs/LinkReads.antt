-- What stands at each task's link after a change of links.
use Rattle.std.proofs.Common.{◌≡◌, ◌≢◌, ℕ, ◌<◌, List, length, set, Option, Some, None, MatchOption, refl, sym, ap, subst, ◌∙◌, ◌⊎◌, inl, inr}
use Rattle.std.proofs.lemmas.Bool.{cases_eq}
use Rattle.std.proofs.lemmas.List.{get_or-set_same, get_or-set_other, length-set}
use Rattle.scx_dsq.specs.declared.links.Link.{Link}
use Rattle.scx_dsq.specs.declared.links.Ends.{Ends}
use Rattle.scx_dsq.specs.Links.{no_link, link_at, with_ahead, with_next, links_appended, links_prepended, links_unlinked}

-- there is no task, or one of a number below that one
abbrev pub IsWithin : ℕ → Option ℕ → Type 0
IsWithin n o = MatchOption o (Unit {0}) (λ t. t < n)

-- as many links as before
pub length-with_ahead : (links : List Link) (o x : Option ℕ) → length (with_ahead links o x) ≡ length links
length-with_ahead links None x = refl
length-with_ahead links (Some t) x = length-set links t (record { ahead = x; next = (link_at links t).next })

-- and here too
pub length-with_next : (links : List Link) (o x : Option ℕ) → length (with_next links o x) ≡ length links
length-with_next links None x = refl
length-with_next links (Some t) x = length-set links t (record { ahead = (link_at links t).ahead; next = x })

-- ---- one change

ahead_here : (links : List Link) (t : ℕ) (x : Option ℕ) → t < length links → (link_at (with_ahead links (Some t) x) t).ahead ≡ x
ahead_here links t x within = ap (λ (l : Link). l.ahead) (get_or-set_same links t (record { ahead = x; next = (link_at links t).next }) no_link within)

behind_here : (links : List Link) (t : ℕ) (x : Option ℕ) → t < length links → (link_at (with_next links (Some t) x) t).next ≡ x
behind_here links t x within = ap (λ (l : Link). l.next) (get_or-set_same links t (record { ahead = (link_at links t).ahead; next = x }) no_link within)

some_other : (t u : ℕ) → Some t ≢ Some u → u ≢ t
some_other t u n e = n (ap Some (sym e))

ahead_kept : (links : List Link) (o x : Option ℕ) (u : ℕ) → o ≢ Some u → link_at (with_ahead links o x) u ≡ link_at links u
ahead_kept links None x u n = refl
ahead_kept links (Some t) x u n = get_or-set_other links t u (record { ahead = x; next = (link_at links t).next }) no_link (some_other t u n)

behind_kept : (links : List Link) (o x : Option ℕ) (u : ℕ) → o ≢ Some u → link_at (with_next links o x) u ≡ link_at links u
behind_kept links None x u n = refl
behind_kept links (Some t) x u n = get_or-set_other links t u (record { ahead = (link_at links t).ahead; next = x }) no_link (some_other t u n)

-- the other half of a link stays
behind_stays : (links : List Link) (o x : Option ℕ) (u : ℕ) → IsWithin (length links) o → (link_at (with_ahead links o x) u).next ≡ (link_at links u).next
behind_stays links None x u within = refl
behind_stays links (Some t) x u within = go (cases_eq u t)
  where
    go : (u ≡ t) ⊎ (u ≡ t → ⊥) → (link_at (with_ahead links (Some t) x) u).next ≡ (link_at links u).next
    go (inl e) = rw e (ap (λ (l : Link). l.next) (get_or-set_same links t (record { ahead = x; next = (link_at links t).next }) no_link within))
    go (inr n) = ap (λ (l : Link). l.next) (get_or-set_other links t u (record { ahead = x; next = (link_at links t).next }) no_link n)

ahead_stays : (links : List Link) (o x : Option ℕ) (u : ℕ) → IsWithin (length links) o → (link_at (with_next links o x) u).ahead ≡ (link_at links u).ahead
ahead_stays links None x u within = refl
ahead_stays links (Some t) x u within = go (cases_eq u t)
  where
    go : (u ≡ t) ⊎ (u ≡ t → ⊥) → (link_at (with_next links (Some t) x) u).ahead ≡ (link_at links u).ahead
    go (inl e) = rw e (ap (λ (l : Link). l.ahead) (get_or-set_same links t (record { ahead = (link_at links t).ahead; next = x }) no_link within))
    go (inr n) = ap (λ (l : Link). l.ahead) (get_or-set_other links t u (record { ahead = (link_at links t).ahead; next = x }) no_link n)

-- ---- a task put at the end

module _ (links : List Link) (ends : Ends) (t : ℕ) (within : t < length links) (last : IsWithin (length links) ends.last) where
  abbrev new : Link
  new = record { ahead = ends.last; next = None }

  long : length (set links t new) ≡ length links
  long = length-set links t new

  still : IsWithin (length (set links t new)) ends.last
  still = subst (λ n. IsWithin n ends.last) (sym long) last

  -- the links of tasks but for it and the last one stay
  pub appended_others : (u : ℕ) → u ≢ t → ends.last ≢ Some u → link_at (links_appended links ends t) u ≡ link_at links u
  appended_others u n m = behind_kept (set links t new) ends.last (Some t) u m ∙ get_or-set_other links t u new no_link n

  -- it waits right behind the one that was last
  pub appended_ahead : (link_at (links_appended links ends t) t).ahead ≡ ends.last
  appended_ahead = ahead_stays (set links t new) ends.last (Some t) t still ∙ ap (λ (l : Link). l.ahead) (get_or-set_same links t new no_link within)

  -- and no task waits after it
  pub appended_behind : ends.last ≢ Some t → (link_at (links_appended links ends t) t).next ≡ None
  appended_behind n = ap (λ (l : Link). l.next) (behind_kept (set links t new) ends.last (Some t) t n ∙ get_or-set_same links t new no_link within)

  -- whom the others wait right behind stays
  pub appended_ahead-other : (u : ℕ) → u ≢ t → (link_at (links_appended links ends t) u).ahead ≡ (link_at links u).ahead
  appended_ahead-other u n = ahead_stays (set links t new) ends.last (Some t) u still ∙ ap (λ (l : Link). l.ahead) (get_or-set_other links t u new no_link n)

  -- and the one that was last has it right behind
  pub appended_behind-last : (u : ℕ) → ends.last ≡ Some u → (link_at (links_appended links ends t) u).next ≡ Some t
  appended_behind-last u e =
      subst (λ o. (link_at (with_next (set links t new) o (Some t)) u).next ≡ Some t) (sym e)
      (behind_here (set links t new) u (Some t) (subst (IsWithin (length (set links t new))) e still))

-- ---- a task put at the front

module _ (links : List Link) (ends : Ends) (t : ℕ) (within : t < length links) (first : IsWithin (length links) ends.first) where
  abbrev head : Link
  head = record { ahead = None; next = ends.first }

  first_still : IsWithin (length (set links t head)) ends.first
  first_still = subst (λ n. IsWithin n ends.first) (sym (length-set links t head)) first

  -- the links of tasks but for it and the first one stay
  pub prepended_others : (u : ℕ) → u ≢ t → ends.first ≢ Some u → link_at (links_prepended links ends t) u ≡ link_at links u
  prepended_others u n m = ahead_kept (set links t head) ends.first (Some t) u m ∙ get_or-set_other links t u head no_link n

  -- the one that was first waits right behind it
  pub prepended_behind : (link_at (links_prepended links ends t) t).next ≡ ends.first
  prepended_behind = behind_stays (set links t head) ends.first (Some t) t first_still ∙ ap (λ (l : Link). l.next) (get_or-set_same links t head no_link within)

  -- and it waits after no task
  pub prepended_ahead : ends.first ≢ Some t → (link_at (links_prepended links ends t) t).ahead ≡ None
  prepended_ahead n = ap (λ (l : Link). l.ahead) (ahead_kept (set links t head) ends.first (Some t) t n ∙ get_or-set_same links t head no_link within)

  -- who waits right behind the others stays
  pub prepended_behind-other : (u : ℕ) → u ≢ t → (link_at (links_prepended links ends t) u).next ≡ (link_at links u).next
  prepended_behind-other u n = behind_stays (set links t head) ends.first (Some t) u first_still ∙ ap (λ (l : Link). l.next) (get_or-set_other links t u head no_link n)

  -- and the one that was first has it right ahead
  pub prepended_ahead-first : (u : ℕ) → ends.first ≡ Some u → (link_at (links_prepended links ends t) u).ahead ≡ Some t
  prepended_ahead-first u e =
      subst (λ o. (link_at (with_ahead (set links t head) o (Some t)) u).ahead ≡ Some t) (sym e)
      (ahead_here (set links t head) u (Some t) (subst (IsWithin (length (set links t head))) e first_still))

-- ---- a task taken out

module _ (links : List Link) (t : ℕ) (ahead : IsWithin (length links) (link_at links t).ahead) (behind : IsWithin (length links) (link_at links t).next) where
  abbrev a : Option ℕ
  a = (link_at links t).ahead

  abbrev b : Option ℕ
  b = (link_at links t).next

  abbrev middle : List Link
  middle = with_ahead links b a

  ahead_still : IsWithin (length middle) a
  ahead_still = subst (λ n. IsWithin n a) (sym (length-with_ahead links b a)) ahead

  -- the links of tasks that were not beside it stay
  pub unlinked_others : (u : ℕ) → a ≢ Some u → b ≢ Some u → link_at (links_unlinked links t) u ≡ link_at links u
  unlinked_others u n m = behind_kept middle a b u n ∙ ahead_kept links b a u m

  -- who was behind it is behind the one ahead of it
  pub unlinked_ahead : (u : ℕ) → b ≡ Some u → (link_at (links_unlinked links t) u).ahead ≡ a
  unlinked_ahead u e =
      ahead_stays middle a b u ahead_still
      ∙ subst (λ o. (link_at (with_ahead links o a) u).ahead ≡ a) (sym e) (ahead_here links u a (subst (IsWithin (length links)) e behind))

  -- who was ahead of it is ahead of the one behind it
  pub unlinked_behind : (u : ℕ) → a ≡ Some u → (link_at (links_unlinked links t) u).next ≡ b
  unlinked_behind u e =
      subst (λ o. (link_at (with_next middle o b) u).next ≡ b) (sym e) (behind_here middle u b (subst (IsWithin (length middle)) e ahead_still))

  -- whom the others wait right behind stays
  pub unlinked_ahead-other : (u : ℕ) → b ≢ Some u → (link_at (links_unlinked links t) u).ahead ≡ (link_at links u).ahead
  unlinked_ahead-other u m = ahead_stays middle a b u ahead_still ∙ ap (λ (l : Link). l.ahead) (ahead_kept links b a u m)

  -- who waits right behind the others stays
  pub unlinked_behind-other : (u : ℕ) → a ≢ Some u → (link_at (links_unlinked links t) u).next ≡ (link_at links u).next
  unlinked_behind-other u n = ap (λ (l : Link). l.next) (behind_kept middle a b u n) ∙ behind_stays links b a u behind
