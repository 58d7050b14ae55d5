-- The leaves of a tree of intersections or unions: what they are, and that the tree holds what they hold together;
-- literals and entries of kinds 0 to 5.
-- Assumes nothing.
use mathlib.Core.Path.{◌≡◌, refl, ap, ap₂, subst, sym, ◌∙◌}
use mathlib.Core.Logic.{inl, inr}
use Prim.Native.Nat.{ℕ, zero, suc, ◌≤◌, ◌<◌}
use native.Mathlib.Omega.{arith}
use native.Mathlib.Nat.{not-suc-le-zero, le_of_suc-le-suc, le_refl, lt_of_lt_of_le}
use mathlib.Core.Bool.{Bool, true, false, not, ◌&&◌, ◌||◌}
use mathlib.Core.List.{List, [], ◌∷◌, ◌++◌}
use lib.ListN.{length, get_or, length-append}
use lib.Dec.{T, eqb, eqb→eq, leb}
use Rattle.task.specs.Reach.{every}
use Rattle.task.proofs.Tests.{excluded}
use Rattle.meaning.specs.File.{Basic, empty, init, goal, explicit, horn, two_cnf, StateSet, basic, complement, intersection, union}
use Rattle.meaning.specs.File.{progression, regression, File, state_set_at, state_kind, basic_kind, first, second}
use Rattle.meaning.proofs.Order.{Earlier, Ordered}
use Rattle.meaning.specs.Sets.{in_basic, state_node, in_set}
use Rattle.meaning.specs.Shapes.{kind_at, child, leaf_node, leaves, is_basic, is_complement}
use Rattle.meaning.proofs.Settled.{ReadsEarlier, settled_node}
use Rattle.meaning.proofs.Nodes.{in_node, by_kind, node_by_kind}
use Rattle.counterexample.proofs.Lists.{any, every_one, any_one, every_append, any_append}

-- the kinds that trees are made of
abbrev pub TreeKind : ℕ → Type 0
TreeKind k = T (eqb k 7 || eqb k 8)

-- an entry of such a kind names two earlier entries
two_earlier : (e : ℕ) (x : StateSet) → TreeKind (state_kind x) → Earlier e x → (first x < e) × (second x < e)
unfolding state_kind basic_kind first second
two_earlier e (basic empty) t l = absurd t
two_earlier e (basic init) t l = absurd t
two_earlier e (basic goal) t l = absurd t
two_earlier e (basic (explicit ss)) t l = absurd t
two_earlier e (basic (horn cs)) t l = absurd t
two_earlier e (basic (two_cnf cs)) t l = absurd t
two_earlier e (complement a) t l = absurd t
two_earlier e (intersection a b) t l = l
two_earlier e (union a b) t l = l
two_earlier e (progression a b) t l = absurd t
two_earlier e (regression a b) t l = absurd t

if_true : {A : Type 0} (b : Bool) (x y : A) → T b → ◌≡◌ {A = A} (elim b [ true ↦ x | false ↦ y ]) x
if_true true x y t = refl
if_true false x y t = absurd t

if_false : {A : Type 0} (b : Bool) (x y : A) → T (not b) → ◌≡◌ {A = A} (elim b [ true ↦ x | false ↦ y ]) y
if_false true x y t = absurd t
if_false false x y t = refl

module _ (f : File) (o : Ordered f) where
  module _ (k : ℕ) (tree : TreeKind k) where
    pub earlier : (e : ℕ) → T (eqb (kind_at f e) k) → (child f e < e) × (second (state_set_at f e) < e)
    unfolding kind_at child
    earlier e t = two_earlier e (state_set_at f e) (subst TreeKind (sym (eqb→eq (state_kind (state_set_at f e)) k t)) tree) (o.states e)

    reads_earlier : ReadsEarlier (leaf_node f k)
    unfolding leaf_node
    reads_earlier e g h same = go (eqb (kind_at f e) k) (λ t. t)
      where
        go : (b : Bool) → (T b → T (eqb (kind_at f e) k))
            → ◌≡◌ {A = List ℕ} (elim b [ true ↦ g (child f e) ++ g (second (state_set_at f e)) | false ↦ e ∷ [] ])
            (elim b [ true ↦ h (child f e) ++ h (second (state_set_at f e)) | false ↦ e ∷ [] ])
        go true t = ap₂ ◌++◌ (same _ (earlier e (t tt)).0) (same _ (earlier e (t tt)).1)
        go false t = refl

    leaves_node : (e : ℕ) → leaves f k e ≡ leaf_node f k (leaves f k) e
    unfolding leaves
    leaves_node e = settled_node (leaf_node f k) [] reads_earlier e

    -- an entry of the tree's kind has the leaves of the two that it names
    pub leaves_tree : (e : ℕ) → T (eqb (kind_at f e) k) → leaves f k e ≡ leaves f k (child f e) ++ leaves f k (second (state_set_at f e))
    unfolding leaf_node
    leaves_tree e t = leaves_node e ∙ if_true (eqb (kind_at f e) k) _ _ t

    -- any other entry is a leaf
    pub leaves_leaf : (e : ℕ) → T (not (eqb (kind_at f e) k)) → leaves f k e ≡ e ∷ []
    unfolding leaf_node
    leaves_leaf e t = leaves_node e ∙ if_false (eqb (kind_at f e) k) _ _ t

    -- what holds of leaves, and of an entry of the tree's kind if of the two that it names, holds of every entry
    module _ (P : ℕ → Type 0)
        (pair : (e : ℕ) → T (eqb (kind_at f e) k) → P (child f e) → P (second (state_set_at f e)) → P e)
        (leaf : (e : ℕ) → T (not (eqb (kind_at f e) k)) → P e) where
      up_to_lem : (d e : ℕ) → e < d → P e
      up_to_lem zero e l = absurd (not-suc-le-zero l)
      up_to_lem (suc d) e l =
          elim (excluded (eqb (kind_at f e) k)) [
            | inl t ↦ pair e t (up_to_lem d _ (lt_of_lt_of_le (earlier e t).0 (le_of_suc-le-suc l)))
                (up_to_lem d _ (lt_of_lt_of_le (earlier e t).1 (le_of_suc-le-suc l)))
            | inr n ↦ leaf e n
          ]

      pub by_tree : (e : ℕ) → P e
      by_tree e = up_to_lem (suc e) e (le_refl (suc e))

    -- a tree has a leaf
    pub leaves_some : (e : ℕ) → 1 ≤ length (leaves f k e)
    leaves_some =
        by_tree (λ e. 1 ≤ length (leaves f k e))
        (λ e t p q. rw (leaves_tree e t) (omega (arith, length-append (leaves f k (child f e)) (leaves f k (second (state_set_at f e))), p)))
        (λ e n. rw (leaves_leaf e n) (omega arith))

    -- a test of entries that goes by the leaves
    by_leaves : (t : ℕ → Bool) (op : Bool → Bool → Bool) (list : List ℕ → Bool)
        → ((xs ys : List ℕ) → list (xs ++ ys) ≡ op (list xs) (list ys))
        → ((e : ℕ) → T (not (eqb (kind_at f e) k)) → list (e ∷ []) ≡ t e)
        → ((e : ℕ) → T (eqb (kind_at f e) k) → t e ≡ op (t (child f e)) (t (second (state_set_at f e))))
        → (e : ℕ) → t e ≡ list (leaves f k e)
    by_leaves t op list append one two =
        by_tree (λ e. t e ≡ list (leaves f k e))
        (λ e y p r. two e y ∙ ap₂ op p r ∙ sym (append _ _) ∙ sym (ap list (leaves_tree e y)))
        (λ e n. sym (one e n) ∙ sym (ap list (leaves_leaf e n)))

  -- ---- what entries hold

  of_kind_lem : (e k : ℕ) → T (eqb (kind_at f e) k) → (s : ℕ) → in_set f e s ≡ get_or (by_kind f (in_set f) (state_set_at f e)) k (λ _. false) s
  unfolding kind_at
  of_kind_lem e k t s = ap (λ (X : ℕ → Bool). X s) (in_node f o e ∙ node_by_kind f (in_set f) (state_set_at f e) k t)

  -- a tree of intersections holds what all its leaves hold, a tree of unions what some leaf holds
  pub in_intersections : (s a : ℕ) → in_set f a s ≡ every (λ e. in_set f e s) (leaves f 7 a)
  unfolding child
  in_intersections s = by_leaves 7 tt t ◌&&◌ (every t) (every_append t) (λ e _. every_one t e) (λ e y. of_kind_lem e 7 y s)
    where
      t : ℕ → Bool
      t e = in_set f e s

  pub in_unions : (s b : ℕ) → in_set f b s ≡ any (λ e. in_set f e s) (leaves f 8 b)
  unfolding child
  in_unions s = by_leaves 8 tt t ◌||◌ (any t) (any_append t) (λ e _. any_one t e) (λ e y. of_kind_lem e 8 y s)
    where
      t : ℕ → Bool
      t e = in_set f e s

  pub in_empty : (e : ℕ) → T (eqb (kind_at f e) 0) → (s : ℕ) → in_set f e s ≡ false
  in_empty e t s = of_kind_lem e 0 t s

  pub in_complement : (e : ℕ) → T (is_complement f e) → (s : ℕ) → in_set f e s ≡ not (in_set f (child f e) s)
  unfolding is_complement child
  in_complement e t s = of_kind_lem e 6 t s

  -- an entry of kinds 0 to 5 holds its basic set
  pub in_basic_lem : (e : ℕ) (b : Basic) → state_set_at f e ≡ basic b → in_set f e ≡ in_basic f.task b
  unfolding state_node
  in_basic_lem e b h = in_node f o e ∙ ap (state_node f (in_set f)) h

  pub basic_of_lem : (e : ℕ) → T (is_basic f e) → (b : Basic) × (state_set_at f e ≡ basic b)
  unfolding is_basic kind_at state_kind
  basic_of_lem e t = go (state_set_at f e) refl t
    where
      go : (x : StateSet) → state_set_at f e ≡ x → T (leb (state_kind x) 5) → (b : Basic) × (state_set_at f e ≡ basic b)
      go (basic b) h t = (b, h)
      go (complement a) h t = absurd t
      go (intersection a b) h t = absurd t
      go (union a b) h t = absurd t
      go (progression a b) h t = absurd t
      go (regression a b) h t = absurd t
