-- The order on kinds: what covers a kind says no more than it. A kind is covered by itself and
-- by Unusable, which says nothing; a pointer that isn't null, also by the kind that may be null.
-- The join of two kinds is the least that covers both, which is Unusable where nothing else does.
-- Numbers, and pointers into elements of one map, are ordered by their ranges.
use Rattle.std.specs.Prelude.{◌≡◌, Bool, ◌&&◌, nat_eq, if◌then◌else◌}
use Rattle.scx_abs_ranges.specs.Ranges.{IsWellFormed, IsRange, CoversRange, join_ranges}
use Rattle.scx_abs.specs.declared.kinds.Kind.{Kind}
use Rattle.scx_abs.specs.declared.kinds.Kind.TheVariants.{Unusable, Num, Stack, Elem, ElemOrNull, Task, TaskOrNull, MapRef}

-- in an order, the first covers the other two, and whatever covers both covers it
pub record IsLeastCover {A : Type 0} (Covers : A → A → Type 0) (joined first second : A)
    : Type 0 where
  pub covers_first : Covers joined first
  pub covers_second : Covers joined second
  pub least : (x : A) → Covers x first → Covers x second → Covers x joined

-- the first covers the second
abbrev pub CoversKind : Kind → Kind → Type 0
CoversKind Unusable k = Unit {0}
CoversKind (Num r) (Num s) = CoversRange r s
CoversKind (Stack o) (Stack p) = o ≡ p
CoversKind (Elem m r) (Elem n s) = (m ≡ n) × CoversRange r s
CoversKind (ElemOrNull m) (ElemOrNull n) = m ≡ n
CoversKind (ElemOrNull m) (Elem n r) = (m ≡ n) × (r.high ≡ 0)
CoversKind Task Task = Unit {0}
CoversKind TaskOrNull TaskOrNull = Unit {0}
CoversKind TaskOrNull Task = Unit {0}
CoversKind (MapRef m) (MapRef n) = m ≡ n
CoversKind j k = ⊥

-- it may be read
abbrev pub IsUsable : Kind → Type 0
IsUsable Unusable = ⊥
IsUsable k = Unit {0}

-- what is known of a number, or of an offset in an element, is a range
abbrev pub IsProperKind : Kind → Type 0
IsProperKind (Num r) = IsRange r
IsProperKind (Elem m r) = IsWellFormed r
IsProperKind k = Unit {0}

-- the kind, where the test holds
abbrev pub kind_if : Bool → Kind → Kind
kind_if b k = if b then k else Unusable

-- the least kind that covers both
abbrev pub join_kind : Kind → Kind → Kind
join_kind (Num r) (Num s) = Num (join_ranges r s)
join_kind (Stack o) (Stack p) = kind_if (nat_eq o p) (Stack o)
join_kind (Elem m r) (Elem n s) = kind_if (nat_eq m n) (Elem m (join_ranges r s))
join_kind (Elem m r) (ElemOrNull n) = kind_if (nat_eq m n && nat_eq r.high 0) (ElemOrNull n)
join_kind (ElemOrNull m) (Elem n r) = kind_if (nat_eq m n && nat_eq r.high 0) (ElemOrNull m)
join_kind (ElemOrNull m) (ElemOrNull n) = kind_if (nat_eq m n) (ElemOrNull m)
join_kind Task Task = Task
join_kind Task TaskOrNull = TaskOrNull
join_kind TaskOrNull Task = TaskOrNull
join_kind TaskOrNull TaskOrNull = TaskOrNull
join_kind (MapRef m) (MapRef n) = kind_if (nat_eq m n) (MapRef m)
join_kind j k = Unusable
