-- The shape of a statement, from the kinds that stand on its two sides.
-- Assumes nothing.
use mathlib.Core.Path.{◌≡◌, refl, sym, ap, ap₂, ◌∙◌}
use Prim.Native.Nat.{ℕ, ◌+◌, ◌≤◌, ◌<◌}
use native.Mathlib.Omega.{arith}
use mathlib.Core.Bool.{Bool, true, false, not, ◌&&◌, ◌||◌}
use mathlib.Core.List.{List, [], ◌∷◌, ◌++◌, map, append-nil}
use lib.ListN.{length}
use lib.Dec.{T, eqb, leb, leb→le}
use borrow.Author.Tests.{le-leb}
use Rattle.task.specs.Reach.{member}
use Rattle.task.proofs.Tests.{is_true}
use Rattle.meaning.specs.File.{File}
use Rattle.meaning.specs.Sets.{all_below}
use Rattle.meaning.specs.Shapes.{keep, Sides, is_complement, is_literal, literal_kind, complements, others, moved_left, moved_right, bracket}
use Rattle.meaning.specs.Shapes.{used, of_literals, of_clauses, lists_init, of_states, permitted, mixed, shape₄}
use Rattle.kinds.specs.declared.Flags.{Flags}
use Rattle.kinds.specs.Summary.{clauses_by, states_by, pair_by}
use Rattle.parts.specs.Written.{pair_sides, literals_of}
use Rattle.meaning.proofs.Below.{all_at}
use Rattle.shapes.proofs.LeafKinds.{literal_basic}
use Rattle.shapes.proofs.KindLaws.{hit, member_append}

four_tests : (a b c d : Bool) → T (a && b && (c && d)) → T a × T b × T c × T d
four_tests true true true true t = (tt, tt, tt, tt)
four_tests true true true false t = absurd t
four_tests true true false d t = absurd t
four_tests true false c d t = absurd t
four_tests false b c d t = absurd t

-- the kinds on the left and on the right as flags
abbrev pub flags_of : List ℕ → List ℕ → Flags
flags_of left right = record {
  l3 = member 3 left;
  l4 = member 4 left;
  l5 = member 5 left;
  r3 = member 3 right;
  r4 = member 4 right;
  r5 = member 5 right;
}

module _ (f : File) (x : Sides) (lit : literals_of f x ≡ true) (left : length x.outer + length x.inner ≤ 8)
    (right : length x.right ≤ 8) where
  of_literals_lem : of_literals f x ≡ true
  unfolding literals_of of_literals
  of_literals_lem = ap₂ ◌&&◌ (ap₂ ◌&&◌ lit (le-leb _ 8 left)) (le-leb _ 8 right)

  abbrev flags : Flags
  flags = flags_of (moved_left f x ++ bracket f x) (moved_right f x)

  in_used : (k : ℕ) → member k (used f x) ≡ (member k (moved_left f x ++ bracket f x) || member k (moved_right f x))
  unfolding used
  in_used k = member_append k (moved_left f x ++ bracket f x) (moved_right f x)

  -- rules 1 to 3
  pub permitted_by : (anchors : Sides → List ℕ) → permitted f anchors x
      ≡ (clauses_by flags (length (keep (λ k. not (eqb k 0)) (moved_right f x))) || states_by flags (hit (lists_init f) (anchors x)))
  unfolding permitted of_clauses of_states clauses_by states_by hit
  permitted_by anchors =
      let a = in_used 3 in
      let b = in_used 4 in
      let c = in_used 5 in
      ap (λ (t : Bool). t && (of_clauses f x || of_states f (anchors x) x)) of_literals_lem ∙ cc

-- ---- rule 4

-- an entry of kind x, a complement or not, within one of kind y: what stands on the left, and on the right
abbrev left_pair : ℕ → Bool → ℕ → Bool → List ℕ
left_pair x nx y ny = elim nx [ true ↦ [] | false ↦ x ∷ [] ] ++ elim ny [ true ↦ y ∷ [] | false ↦ [] ]

abbrev pair_flags : ℕ → Bool → ℕ → Bool → Flags
pair_flags x nx y ny = flags_of (left_pair x nx y ny) (left_pair y ny x nx)

module _ (f : File) where
  abbrev agree : Bool → Bool → Bool
  agree true b = b
  agree false b = not b

  agreed : (a b : Bool) → T (agree a b) → a ≡ b
  agreed true true t = refl
  agreed true false t = absurd t
  agreed false true t = absurd t
  agreed false false t = refl

  abbrev right : ℕ → ℕ → Bool → Bool → Bool
  right x y nx ny = agree (mixed f x nx y ny) (pair_by (pair_flags x nx y ny))

  abbrev rights : ℕ → ℕ → Bool
  rights x y = right x y true true && right x y true false && (right x y false true && right x y false false)

  -- the table of all kinds
  table : T (all_below 6 (λ x. all_below 6 (rights x)))
  unfolding all_below mixed member pair_by
  table = tt

  mixed_by : (x y : ℕ) → x < 6 → y < 6 → (nx ny : Bool) → mixed f x nx y ny ≡ pair_by (pair_flags x nx y ny)
  mixed_by x y l g nx ny = agreed (mixed f x nx y ny) (pair_by (pair_flags x nx y ny)) (go nx ny)
    where
      w : T (right x y true true) × T (right x y true false) × T (right x y false true) × T (right x y false false)
      w =
          four_tests (right x y true true) (right x y true false) (right x y false true) (right x y false false)
          (all_at 6 (rights x) (all_at 6 (λ z. all_below 6 (rights z)) table x l) y g)

      go : (a b : Bool) → T (right x y a b)
      go true true = w.0
      go true false = w.1
      go false true = w.2
      go false false = w.3

  -- one entry a side
  one_other : (e : ℕ) → others f (e ∷ []) ≡ elim (is_complement f e) [ true ↦ [] | false ↦ literal_kind f e ∷ [] ]
  unfolding others keep
  one_other e = go (is_complement f e)
    where
      go : (b : Bool)
          → map (literal_kind f) (elim (not b) [ true ↦ e ∷ [] | false ↦ [] ]) ≡ elim b [ true ↦ [] | false ↦ literal_kind f e ∷ [] ]
      go true = refl
      go false = refl

  one_complement : (e : ℕ) → complements f (e ∷ []) ≡ elim (is_complement f e) [ true ↦ literal_kind f e ∷ [] | false ↦ [] ]
  unfolding complements keep
  one_complement e = go (is_complement f e)
    where
      go : (b : Bool) → map (literal_kind f) (elim b [ true ↦ e ∷ [] | false ↦ [] ]) ≡ elim b [ true ↦ literal_kind f e ∷ [] | false ↦ [] ]
      go true = refl
      go false = refl

  module _ (a b : ℕ) where
    abbrev both : Sides
    both = pair_sides a b

    -- rule 4
    pub paired_by : T (is_literal f a) → T (is_literal f b)
        → shape₄ f a b ≡ pair_by (flags_of (moved_left f both ++ bracket f both) (moved_right f both))
    unfolding shape₄ moved_left moved_right bracket
    paired_by s t =
        let l : literal_kind f a < 6 = below (literal_basic f a s) in
        let m : literal_kind f b < 6 = below (literal_basic f b t) in
        let p : left_pair (literal_kind f a) (is_complement f a) (literal_kind f b) (is_complement f b)
        ≡ moved_left f both ++ bracket f both =
        ap₂ ◌++◌ (sym (one_other a)) (sym (one_complement b)) ∙ sym (append-nil _) in
        let q : left_pair (literal_kind f b) (is_complement f b) (literal_kind f a) (is_complement f a) ≡ moved_right f both =
        ap₂ ◌++◌ (sym (one_other b)) (sym (one_complement a)) in
        ap₂ (λ (i j : Bool). i && j && mixed f (literal_kind f a) (is_complement f a) (literal_kind f b) (is_complement f b))
        (is_true (is_literal f a) s) (is_true (is_literal f b) t)
        ∙ mixed_by _ _ l m (is_complement f a) (is_complement f b) ∙ ap₂ (λ (u v : List ℕ). pair_by (flags_of u v)) p q
      where
        below : {k : ℕ} → T (leb k 5) → k < 6
        below {k} h = let w : k ≤ 5 = leb→le k 5 h in omega arith
