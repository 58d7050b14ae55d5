-- Leaves written into an array: none, one, and one list after another.
-- Assumes nothing.
use mathlib.Core.Path.{◌≡◌, refl, sym, ap, ◌∙◌, subst}
use Prim.Native.Nat.{ℕ, ◌+◌, ◌≤◌, ◌<◌}
use native.Mathlib.Numerals.{add-one}
use native.Mathlib.Omega.{arith}
use mathlib.Core.Bool.{Bool, true, false, not, ◌&&◌}
use mathlib.Core.List.{List, [], ◌∷◌, ◌++◌, append_assoc, append-nil, map, map-append}
use lib.ListN.{length, take, get_or, set, length-append, length-set, length-map}
use lib.Seq.{take_all, take-suc, take-suc-set, get_or-set_other}
use lib.Dec.{eqb}
use Rattle.std.specs.Prelude.{Option, Some, None}
use Rattle.meaning.specs.File.{File}
use Rattle.meaning.specs.Shapes.{keep, kind_at, child, is_complement}
use Rattle.counterexample.specs.Counter.{Asked}
use Rattle.leaves.specs.declared.Leaf.{Leaf}
use Rattle.leaves.specs.Leaves.{no_leaf, leaf_in, leaves_in}
use Rattle.trees.specs.declared.Leaves.{Leaves}
use Rattle.trees.specs.Trees.{list_of}
use Rattle.shapes.specs.Gathered.{leaf_of}
use Rattle.shapes.specs.Arrays.{entry_of, on_side, wants, taken, filled, picked, Put}
use Rattle.trees.proofs.TreeLaws.{keep_append, keep_short, count_list}

-- what is taken of an entry, by the tests
module _ (f : File) (turned all : Bool) (e : ℕ) where
  abbrev if_wanted : Bool → Option ℕ
  if_wanted b = elim b [ true ↦ Some (entry_of f turned e) | false ↦ None ]

  taken_by : (b : Bool) → wants f turned all e ≡ b → taken f turned all e ≡ if_wanted b
  unfolding taken
  taken_by b h = ap if_wanted h

  -- what was taken was wanted
  pub taken_some : (d : ℕ) → Some d ≡ taken f turned all e → (wants f turned all e ≡ true) × (d ≡ entry_of f turned e)
  taken_some d h = go (wants f turned all e) refl
    where
      go : (b : Bool) → wants f turned all e ≡ b → (wants f turned all e ≡ true) × (d ≡ entry_of f turned e)
      go true w = (w, cc (h, taken_by true w))
      go false w = absurd (cc (h, taken_by false w))

  pub taken_none : None ≡ taken f turned all e → wants f turned all e ≡ false
  taken_none h = go (wants f turned all e) refl
    where
      go : (b : Bool) → wants f turned all e ≡ b → wants f turned all e ≡ false
      go true w = absurd (cc (h, taken_by true w))
      go false w = w

module _ (f : File) where
  pub filled_none : (o : Option ℕ) → o ≡ None → None ≡ filled f o
  unfolding filled
  filled_none o h = rw h refl

  abbrev unless : ℕ → Bool → Option ℕ
  unless d b = elim (not b) [ true ↦ Some d | false ↦ None ]

  pub filled_not : (o : Option ℕ) (d : ℕ) → o ≡ Some d → eqb (kind_at f d) 0 ≡ true → None ≡ filled f o
  unfolding filled
  filled_not o d h k = rw h (sym (ap (unless d) k))

  pub filled_is : (o : Option ℕ) (d : ℕ) → o ≡ Some d → eqb (kind_at f d) 0 ≡ false → Some d ≡ filled f o
  unfolding filled
  filled_is o d h k = rw h (sym (ap (unless d) k))

module _ (f : File) (e : ℕ) where
  -- taken of any kind: by whether the entry is a complement
  pub plain_not : is_complement f e ≡ true → None ≡ taken f false true e
  unfolding on_side wants
  plain_not h = sym (taken_by f false true e false (ap (λ (b : Bool). not b && true) h))

  pub plain_is : is_complement f e ≡ false → Some e ≡ taken f false true e
  unfolding on_side wants entry_of
  plain_is h = sym (taken_by f false true e true (ap (λ (b : Bool). not b && true) h))

  pub turned_is : is_complement f e ≡ true → Some (child f e) ≡ taken f true true e
  unfolding on_side wants entry_of
  turned_is h = sym (taken_by f true true e true (ap (λ (b : Bool). b && true) h))

  pub turned_not : is_complement f e ≡ false → None ≡ taken f true true e
  unfolding on_side wants
  turned_not h = sym (taken_by f true true e false (ap (λ (b : Bool). b && true) h))

  -- and then where it is not of kind 0
  pub filled_taken : (turned : Bool) → filled f (taken f turned true e) ≡ taken f turned false e
  unfolding taken wants filled
  filled_taken turned = go (on_side f turned e) (eqb (kind_at f (entry_of f turned e)) 0) refl
    where
      d : ℕ
      d = entry_of f turned e

      go : (b c : Bool) → eqb (kind_at f d) 0 ≡ c → filled f (if_wanted f turned true e (b && true)) ≡ if_wanted f turned false e (b && not c)
      go true true h = ap (λ (w : Bool). if_wanted f turned true e (not w)) h
      go true false h = ap (λ (w : Bool). if_wanted f turned true e (not w)) h
      go false c h = refl

module _ (index : List ℕ) (f : File) where
  -- nothing written
  pub put_none : (n : ℕ) (out : List Leaf) → Put index f [] n out out n
  put_none n out = record { count = omega arith; written = sym (append-nil (leaves_in out n)); rest = λ j l. refl; kept = refl }

  -- one leaf
  pub put_one : (x : Asked) (n : ℕ) (out : List Leaf) → n < length out → Put index f (x ∷ []) n out (set out n (leaf_of index f x)) (n + 1)
  unfolding leaves_in leaf_in
  put_one x n out r = record {
    count = refl;
    written = rw add-one (take-suc-set out n (leaf_of index f x) r);
    rest = λ j g. get_or-set_other out n j (leaf_of index f x) no_leaf (λ z. omega arith);
    kept = length-set out n (leaf_of index f x);
  }

  -- one list after another
  pub put_append : (xs ys : List Asked) (a b c : ℕ) (p q r : List Leaf)
      → Put index f xs a p q b → Put index f ys b q r c → Put index f (xs ++ ys) a p r c
  put_append xs ys a b c p q r h k =
      let first : List Leaf = map (leaf_of index f) xs in
      let second : List Leaf = map (leaf_of index f) ys in
      record {
        count = k.count ∙ ap (λ (n : ℕ). n + length ys) h.count ∙ omega (arith, length-append xs ys);
        written =
            k.written ∙ ap (λ (zs : List Leaf). zs ++ second) h.written ∙ append_assoc (leaves_in p a) first second
            ∙ ap (λ (zs : List Leaf). leaves_in p a ++ zs) (sym (map-append (leaf_of index f) xs ys));
        rest = λ j l. k.rest j l ∙ h.rest j (omega (arith, k.count));
        kept = k.kept ∙ h.kept;
      }

module _ (f : File) (turned all after : Bool) where
  abbrev pick : List ℕ → List Asked
  pick = picked f turned all after

  abbrev asked_of : ℕ → Asked
  asked_of e = record { entry = entry_of f turned e; after = after }

  picked_append : (xs ys : List ℕ) → pick (xs ++ ys) ≡ pick xs ++ pick ys
  unfolding picked
  picked_append xs ys =
      ap (map asked_of) (keep_append (wants f turned all) xs ys)
      ∙ map-append asked_of (keep (wants f turned all) xs) (keep (wants f turned all) ys)

  picked_short : (xs : List ℕ) → length (pick xs) ≤ length xs
  unfolding picked
  picked_short xs = omega (arith, length-map (keep (wants f turned all) xs) asked_of, keep_short (wants f turned all) xs)

  -- one entry: its leaf if it is wanted
  picked_if : (e : ℕ) (b : Bool) → wants f turned all e ≡ b → pick (e ∷ []) ≡ map asked_of (elim b [ true ↦ e ∷ [] | false ↦ [] ])
  unfolding picked keep
  picked_if e b h = ap (λ (w : Bool). map asked_of (elim w [ true ↦ e ∷ [] | false ↦ [] ])) h

  -- going through a list of entries
  module _ (index : List ℕ) (xs : List ℕ) (i from n : ℕ) (l : i < length xs) (was out : List Leaf)
      (p : Put index f (pick (take i xs)) from was out n) where
    abbrev here : ℕ
    here = get_or xs i 0

    put_next : (ys : List Asked) (is : List Leaf) (r : ℕ) → pick (here ∷ []) ≡ ys → Put index f ys n out is r
        → Put index f (pick (take (i + 1) xs)) from was is r
    put_next ys is r e k =
        let next : take (i + 1) xs ≡ take i xs ++ here ∷ [] = rw add-one (take-suc xs i 0 l) in
        let whole : pick (take i xs) ++ ys ≡ pick (take (i + 1) xs) =
        ap (λ (zs : List Asked). pick (take i xs) ++ zs) (sym e) ∙ sym (picked_append (take i xs) (here ∷ [])) ∙ ap pick (sym next) in
        subst (λ (zs : List Asked). Put index f zs from was is r) whole (put_append index f _ _ _ _ _ _ _ _ p k)

    pub put_taken : (d : ℕ) → Some d ≡ taken f turned all here → n < length out → (y : Leaf)
        → y ≡ leaf_of index f (record { entry = d; after = after }) → Put index f (pick (take (i + 1) xs)) from was (set out n y) (n + 1)
    put_taken d q r y e =
        put_next (asked_of here ∷ []) _ _ (picked_if here true (taken_some f turned all here d q).0)
        (subst (λ (z : Leaf). Put index f (asked_of here ∷ []) n out (set out n z) (n + 1)) (sym (e ∙ ap (λ (k : ℕ). leaf_of index f (record { entry = k; after = after })) (taken_some f turned all here d q).1))
        (put_one index f (asked_of here) n out r))

    pub put_not_taken : None ≡ taken f turned all here → Put index f (pick (take (i + 1) xs)) from was out n
    put_not_taken q = put_next [] _ _ (picked_if here false (taken_none f turned all here q)) (put_none index f n out)

  -- all are passed
  pub put_all : (index : List ℕ) (xs ys : List ℕ) (i from n : ℕ) (was out : List Leaf) → Put index f (pick (take i xs)) from was out n
      → length xs ≤ i → xs ≡ ys → Put index f (pick ys) from was out n
  put_all index xs ys i from n was out p l e = subst (λ (zs : List ℕ). Put index f (pick zs) from was out n) (take_all i xs l ∙ e) p

-- how many leaves of a list of entries are written
pub put_bounds : (f : File) (index : List ℕ) (turned all after : Bool) (x : Leaves) (from r : ℕ) (was is : List Leaf)
    → Put index f (picked f turned all after (list_of x)) from was is r → (from ≤ r) × (r ≤ from + x.count) × (length is ≡ length was)
put_bounds f index turned all after x from r was is p =
    let n = picked_short f turned all after (list_of x) in
    let m = count_list x in
    (omega (arith, p.count), omega (arith, p.count), p.kept)
