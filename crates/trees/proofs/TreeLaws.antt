-- Short lists of entries: one more entry, and the leaves of a tree, found one after the other.
-- Assumes nothing.
use mathlib.Core.Path.{◌≡◌, refl, sym, ap, ap₂, ◌∙◌}
use Prim.Native.Nat.{ℕ, suc, ◌+◌, ◌-◌, ◌≤◌, ◌<◌}
use native.Mathlib.Numerals.{add-one}
use native.Mathlib.Omega.{arith}
use mathlib.Core.Bool.{Bool, true, false, not, ◌&&◌, ◌||◌}
use mathlib.Core.List.{List, [], ◌∷◌, ◌++◌, append_assoc, append-nil}
use lib.ListN.{length, take, get_or, set, length-append}
use lib.Seq.{take-suc, take-suc-set, length-take-le}
use lib.Dec.{T, eqb, leb}
use Rattle.std.specs.List.{list_all}
use Rattle.task.specs.Reach.{every}
use Rattle.meaning.specs.File.{File, state_set_at, first, second, state_kind, basic_kind}
use Rattle.meaning.specs.File.{StateSet, basic, complement, intersection, union, progression, regression}
use Rattle.meaning.specs.File.{empty, init, goal, explicit, horn, two_cnf}
use Rattle.meaning.proofs.Order.{Ordered}
use Rattle.meaning.specs.Shapes.{keep, kind_at, child, leaves, is_basic, is_complement, is_literal}
use Rattle.certificate.specs.declared.StateEntry.{StateEntry}
use Rattle.certificate.specs.declared.StateEntry.TheVariants.{Basic, Complement, Intersection, Union, Progression, Regression}
use Rattle.certificate.specs.Views.{view_of}
use Rattle.certificate.specs.Index.{state_place}
use Rattle.trees.specs.declared.Leaves.{Leaves}
use Rattle.trees.specs.Trees.{list_of, Lists}
use Rattle.counterexample.proofs.Lists.{keep_cases}
use Rattle.counterexample.proofs.LeafLaws.{TreeKind, leaves_some, leaves_tree, leaves_leaf}

pub count_list : (x : Leaves) → length (list_of x) ≡ x.count
unfolding list_of
count_list x = length-take-le x.count x.items (omega (arith, x.few, x.room))

pub few_in : (x : Leaves) (es : List ℕ) → es ≡ list_of x → length es ≤ 9
few_in x es e = omega (arith, ap length e, count_list x, x.few)

-- a list lists what it holds
lists_of : (x : Leaves) (es : List ℕ) → list_of x ≡ es → Lists x es
lists_of x es e = record { same = e; size = sym (count_list x) ∙ ap length e }

-- no entries
pub lists_none : (x : Leaves) → x.count ≡ 0 → Lists x []
unfolding list_of
lists_none x e = lists_of x [] (ap (λ (n : ℕ). take n x.items) e)

-- one entry more
pub lists_more : (x y : Leaves) (e : ℕ) → x.count < 9 → y.items ≡ set x.items x.count e → y.count ≡ x.count + 1
    → Lists y (list_of x ++ e ∷ [])
unfolding list_of
lists_more x y e l i n =
    lists_of y (list_of x ++ e ∷ [])
    (ap₂ take n i ∙ rw add-one (take-suc-set x.items x.count e (omega (arith, x.room))))

-- one entry less
pub lists_last : (x y : Leaves) → (x.count ≡ 0 → ⊥) → y.items ≡ x.items → y.count ≡ x.count - 1
    → Lists x (list_of y ++ get_or x.items (x.count - 1) 0 ∷ [])
unfolding list_of
lists_last x y l i n =
    let m : suc (x.count - 1) ≡ x.count = omega arith in
    lists_of x (list_of y ++ get_or x.items (x.count - 1) 0 ∷ [])
    (ap (λ (k : ℕ). take k x.items) (sym m) ∙ take-suc x.items (x.count - 1) 0 (omega (arith, x.few, x.room))
    ∙ ap (λ (xs : List ℕ). xs ++ get_or x.items (x.count - 1) 0 ∷ []) (sym (ap₂ take n i)))

pub size_more : (x y : Leaves) (e : ℕ) → Lists y (list_of x ++ e ∷ []) → y.count ≡ x.count + 1
size_more x y e h = omega (arith, h.size, length-append (list_of x) (e ∷ []), count_list x)

-- ---- the leaves of a tree

module _ (f : File) (k : ℕ) where
  -- the leaves of the entries that wait, of which the last comes first
  abbrev pub unread : List ℕ → List ℕ
  unread [] = []
  unread (x ∷ xs) = unread xs ++ leaves f k x

  unread_last : (xs : List ℕ) (x : ℕ) → unread (xs ++ x ∷ []) ≡ leaves f k x ++ unread xs
  unread_last [] x = sym (append-nil (leaves f k x))
  unread_last (y ∷ xs) x =
      ap (λ (zs : List ℕ). zs ++ leaves f k y) (unread_last xs x) ∙ append_assoc (leaves f k x) (unread xs) (leaves f k y)

  -- what was found and what waits are all the leaves of e
  pub record Tour (e : ℕ) (out waiting : Leaves) : Type 0 where
    pub low : out.count ≤ 8
    pub room : out.count + waiting.count ≤ 9
    pub whole : list_of out ++ unread (list_of waiting) ≡ leaves f k e

module _ (f : File) (o : Ordered f) (k : ℕ) (tree : TreeKind k) (e : ℕ) where
  unread_long : (xs : List ℕ) → length xs ≤ length (unread f k xs)
  unread_long [] = omega arith
  unread_long (x ∷ xs) = omega (arith, unread_long xs, leaves_some f o k tree x, length-append (unread f k xs) (leaves f k x))

  pub tour_start : (out waiting : Leaves) → Lists out [] → Lists waiting (e ∷ []) → Tour f k e out waiting
  tour_start out waiting h w = record {
    low = omega (arith, h.size);
    room = omega (arith, h.size, w.size);
    whole = ap₂ (λ (xs ys : List ℕ). xs ++ unread f k ys) h.same w.same;
  }

  module _ (out waiting : Leaves) (v : Tour f k e out waiting) where
    pub tour_end : Lists waiting [] → Lists out (leaves f k e) × (length (leaves f k e) ≤ 8)
    tour_end h =
        let w : list_of out ≡ leaves f k e = sym (append-nil (list_of out)) ∙ ap (λ (xs : List ℕ). list_of out ++ unread f k xs) (sym h.same) ∙ v.whole in
        let n : length (leaves f k e) ≡ out.count = sym (ap length w) ∙ count_list out in
        (lists_of out (leaves f k e) w, omega (arith, v.low))

    -- d is the next entry
    module _ (rest : Leaves) (d : ℕ) (p : Lists waiting (list_of rest ++ d ∷ [])) where
      one_less : waiting.count ≡ rest.count + 1
      one_less = size_more rest waiting d p

      unread_head : unread f k (list_of waiting) ≡ leaves f k d ++ unread f k (list_of rest)
      unread_head = ap (unread f k) p.same ∙ unread_last f k (list_of rest) d

      -- nine are too many
      pub tour_many : 8 ≤ out.count + rest.count → 8 < length (leaves f k e)
      tour_many l =
          let m = ap length v.whole in
          let n = length-append (list_of out) (unread f k (list_of waiting)) in
          omega (arith, m, n, one_less, unread_long (list_of waiting), count_list out, count_list waiting)

      -- the next entry is a leaf
      pub tour_leaf : T (not (eqb (kind_at f d) k)) → (more : Leaves) → Lists more (list_of out ++ d ∷ [])
          → out.count + rest.count < 8 → Tour f k e more rest
      tour_leaf n more h l = record {
        low = omega (arith, size_more out more d h);
        room = omega (arith, size_more out more d h, one_less, v.room);
        whole =
            ap (λ (xs : List ℕ). xs ++ unread f k (list_of rest)) h.same
            ∙ append_assoc (list_of out) (d ∷ []) (unread f k (list_of rest))
            ∙ ap (λ (xs : List ℕ). list_of out ++ (xs ++ unread f k (list_of rest))) (sym (leaves_leaf f o k tree d n))
            ∙ ap (λ (xs : List ℕ). list_of out ++ xs) (sym unread_head)
            ∙ v.whole;
      }

      -- the next entry is of the tree's kind, and the two that it names wait in its place
      pub tour_tree : T (eqb (kind_at f d) k) → (a b : ℕ) → a ≡ child f d → b ≡ second (state_set_at f d)
          → (more both : Leaves) → Lists more (list_of rest ++ b ∷ []) → Lists both (list_of more ++ a ∷ [])
          → out.count + rest.count < 8 → Tour f k e out both
      tour_tree t a b p q more both h i l =
          let s : unread f k (list_of both) ≡ unread f k (list_of waiting) =
          ap (unread f k) i.same ∙ unread_last f k (list_of more) a
          ∙ ap (λ (xs : List ℕ). leaves f k a ++ unread f k xs) h.same
          ∙ ap (λ (xs : List ℕ). leaves f k a ++ xs) (unread_last f k (list_of rest) b)
          ∙ sym (append_assoc (leaves f k a) (leaves f k b) (unread f k (list_of rest)))
          ∙ rw (p, q) (ap (λ (xs : List ℕ). xs ++ unread f k (list_of rest)) (sym (leaves_tree f o k tree d t)))
          ∙ sym unread_head in
          record {
            low = v.low;
            room = omega (arith, size_more rest more b h, size_more more both a i);
            whole = ap (λ (xs : List ℕ). list_of out ++ xs) s ∙ v.whole;
          }

-- ---- going through a list

pub keep_append : (t : ℕ → Bool) (xs ys : List ℕ) → keep t (xs ++ ys) ≡ keep t xs ++ keep t ys
unfolding keep
keep_append t [] ys = refl
keep_append t (x ∷ xs) ys = go (t x) (keep_append t xs ys)
  where
    with_if : Bool → List ℕ → List ℕ
    with_if b zs = elim b [ true ↦ x ∷ zs | false ↦ zs ]

    go : (b : Bool) → keep t (xs ++ ys) ≡ keep t xs ++ keep t ys → with_if b (keep t (xs ++ ys)) ≡ with_if b (keep t xs) ++ keep t ys
    go true e = ap (λ (zs : List ℕ). x ∷ zs) e
    go false e = e

pub keep_short : (t : ℕ → Bool) (xs : List ℕ) → length (keep t xs) ≤ length xs
unfolding keep
keep_short t [] = omega arith
keep_short t (x ∷ xs) =
    let h = keep_short t xs in
    keep_cases t (λ ys. length ys ≤ suc (length xs)) x xs (λ _. omega arith) (λ _. omega arith)

-- one entry more, which passes the test or does not
module _ (t : ℕ → Bool) (xs : List ℕ) (i : ℕ) (l : i < length xs) where
  keep_next : keep t (take (i + 1) xs) ≡ keep t (take i xs) ++ keep t (get_or xs i 0 ∷ [])
  keep_next = rw add-one (ap (keep t) (take-suc xs i 0 l) ∙ keep_append t (take i xs) (get_or xs i 0 ∷ []))

  keep_if : (b : Bool) → b ≡ t (get_or xs i 0)
      → keep t (take (i + 1) xs) ≡ keep t (take i xs) ++ elim b [ true ↦ get_or xs i 0 ∷ [] | false ↦ [] ]
  unfolding keep
  keep_if b e = keep_next ∙ ap (λ (w : Bool). keep t (take i xs) ++ elim w [ true ↦ get_or xs i 0 ∷ [] | false ↦ [] ]) (sym e)

  pub filter_in : (x y : Leaves) (b : Bool) → b ≡ t (get_or xs i 0) → b ≡ true → Lists x (keep t (take i xs))
      → Lists y (list_of x ++ get_or xs i 0 ∷ []) → Lists y (keep t (take (i + 1) xs))
  filter_in x y b e u h k =
      lists_of y _ (k.same ∙ ap (λ (ys : List ℕ). ys ++ get_or xs i 0 ∷ []) h.same ∙ sym (keep_if true (sym u ∙ e)))

  pub filter_out : (x : Leaves) (b : Bool) → b ≡ t (get_or xs i 0) → b ≡ false → Lists x (keep t (take i xs))
      → Lists x (keep t (take (i + 1) xs))
  filter_out x b e u h = lists_of x _ (h.same ∙ sym (append-nil (keep t (take i xs))) ∙ sym (keep_if false (sym u ∙ e)))

pub every_all : (t : ℕ → Bool) (xs : List ℕ) → list_all t xs ≡ every t xs
unfolding every
every_all t [] = refl
every_all t (x ∷ xs) = ap (λ (b : Bool). t x && b) (every_all t xs)

-- ---- literals

module _ (f : File) where
  -- what an entry's constructor says of it: it is a literal
  unfoldable pub literal_in : StateEntry → Bool
  literal_in (Basic b) = true
  literal_in (Complement a) = is_basic f a
  literal_in (Intersection a b) = false
  literal_in (Union a b) = false
  literal_in (Progression a b) = false
  literal_in (Regression a b) = false

  literal_set : (p : ℕ) (x : StateSet)
      → (leb (state_kind x) 5 || (eqb (state_kind x) 6 && is_basic f (first x))) ≡ literal_in (view_of p x)
  unfolding literal_in view_of state_kind first basic_kind
  literal_set p (basic empty) = refl
  literal_set p (basic init) = refl
  literal_set p (basic goal) = refl
  literal_set p (basic (explicit ss)) = refl
  literal_set p (basic (horn cs)) = refl
  literal_set p (basic (two_cnf cs)) = refl
  literal_set p (complement a) = refl
  literal_set p (intersection a b) = refl
  literal_set p (union a b) = refl
  literal_set p (progression a e) = refl
  literal_set p (regression a e) = refl

  pub entry_literal : (index : List ℕ) (e : ℕ) (x : StateEntry) → x ≡ view_of (state_place index e) (state_set_at f e)
      → literal_in x ≡ is_literal f e
  unfolding is_literal is_basic is_complement child kind_at
  entry_literal index e x q = ap literal_in q ∙ sym (literal_set (state_place index e) (state_set_at f e))
