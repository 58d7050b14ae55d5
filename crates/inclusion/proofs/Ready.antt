-- What the two searches may count on holds of the leaves of a permitted statement of a checked file.
-- Assumes nothing.
use mathlib.Core.Path.{◌≡◌, sym, ap, subst, ◌∙◌}
use Prim.Native.Nat.{ℕ, ◌≤◌, ◌<◌, min}
use native.Mathlib.Omega.{arith}
use mathlib.Core.Bool.{Bool, true, false, ◌||◌}
use mathlib.Core.List.{List, [], ◌∷◌, map}
use lib.ListN.{length, length-take, length-map}
use lib.Dec.{T}
use Rattle.task.specs.declared.Ends.{Ends}
use Rattle.task.specs.Task.{action_at}
use Rattle.task.specs.Inner.{no_action, ends_of}
use Rattle.task.specs.Reach.{member}
use Rattle.task.proofs.Tests.{or_left, or_right, is_true, is_false, member_first, member_rest}
use Rattle.certificate.specs.declared.BasicEntry.{BasicEntry}
use Rattle.certificate.specs.declared.BasicEntry.TheVariants.{Empty, Init, Goal, Explicit, Horn, TwoCnf}
use Rattle.certificate.specs.Known.{Known, decoded}
use Rattle.certificate.proofs.KnownLaws.{read_file_lem, read_ordered}
use Rattle.meaning.specs.File.{File}
use Rattle.meaning.specs.Shapes.{kind_at, lists_init}
use Rattle.meaning.specs.Writing.{FitsAction}
use Rattle.meaning.proofs.Order as order
use Rattle.counterexample.specs.Counter.{Asked}
use Rattle.counterexample.proofs.LeafLaws.{basic_of_lem}
use Rattle.leaves.specs.declared.Leaf.{Leaf}
use Rattle.leaves.specs.Leaves.{kind_of, leaf_in, leaves_in}
use Rattle.leaves.specs.Holds.{Orderly, Ruled}
use Rattle.leaves.specs.Lists.{Each}
use Rattle.leaves.proofs.ListLaws.{each_at}
use Rattle.leaves.proofs.KnownLeaves.{WithinLimits, limits_orderly, known_kind, known_limits}
use Rattle.propagation.specs.Clauses.{ClausalSet, Clausal, UnlistedSet, Unlisted}
use Rattle.listed.specs.Listed.{ListsStates, Anchored}
use Rattle.kinds.specs.declared.Gathered.{Gathered}
use Rattle.shapes.specs.Gathered.{leaf_of, kinds_of, AllBasic, left_of, right_of, Gathers}
use Rattle.kinds.specs.Summary.{may_anchor}
use Rattle.inclusion.specs.Search.{Searchable}

module _ (bytes : List ℕ) (index : List ℕ) (k : Known bytes index) where
  abbrev f : File
  f = decoded bytes

  abbrev ends : Ends
  ends = ends_of f.task

  -- ---- its actions, and the action that does nothing

  pub action_fits : (i : ℕ) → i < length f.task.actions → FitsAction f.task.facts (action_at f.task i)
  unfolding action_at
  action_fits i l = order.all_at (λ _. FitsAction f.task.facts) _ 0 f.task.actions (read_file_lem bytes k.read).task.actions i l

  pub none_fits : FitsAction f.task.facts no_action
  unfolding no_action
  none_fits =
      let l = (read_file_lem bytes k.read).task.init in
      record { pre = omega arith; add = omega arith; del = omega arith; off = omega arith }

  -- ---- leaves of some kinds

  -- what is so of sets within the limits that are of the entries' kinds is so of their leaves
  each_leaf : (P : Leaf → Type 0) (xs : List Asked) → AllBasic f xs
      → ((x : Leaf) → WithinLimits bytes index f.task.facts x.set → T (member (kind_of x.set) (kinds_of f xs)) → P x)
      → Each P (map (leaf_of index f) xs)
  unfolding leaf_of kinds_of
  each_leaf P [] b h = tt
  each_leaf P (x ∷ xs) b h =
      let (c, q) = basic_of_lem f (read_ordered bytes k.read) x.entry b.0 in (
        h (leaf_of index f x) (known_limits bytes index k x.entry c q)
            (member_first _ (kind_at f x.entry) (kinds_of f xs) (known_kind bytes index k x.entry c q)),
        each_leaf P xs b.1 (λ y l m. h y l (member_rest _ (kind_at f x.entry) (kinds_of f xs) m)),
      )

  orderly : (xs : List Asked) → AllBasic f xs → Each (λ y. Orderly bytes index y.set) (map (leaf_of index f) xs)
  orderly xs b = each_leaf (λ y. Orderly bytes index y.set) xs b (λ y l _. limits_orderly bytes index f.task.facts y.set l)

  -- a set whose states are listed, within the file's facts
  lists : (v : BasicEntry) → WithinLimits bytes index f.task.facts v → T (may_anchor (lists_init f) v) → ListsStates bytes ends v
  unfolding ends_of
  lists Empty l w = tt
  lists Init l w = let h = (read_file_lem bytes k.read).task in (h.init, h.unknown)
  lists Goal l w = absurd w
  lists (Explicit s) l w = l.1
  lists (Horn s) l w = absurd w
  lists (TwoCnf s) l w = absurd w

  -- where no kind is that of listed states
  module _ (ks : List ℕ) (three : T (member 3 ks) → ⊥) where
    unlisted : (v : BasicEntry) → T (member (kind_of v) ks) → UnlistedSet v
    unfolding kind_of
    unlisted Empty m = tt
    unlisted Init m = tt
    unlisted Goal m = tt
    unlisted (Explicit s) m = three m
    unlisted (Horn s) m = tt
    unlisted (TwoCnf s) m = tt

    -- and all clauses are of one sort
    clausal : (n : ℕ) (two : Bool) → (T (member 4 ks) → two ≡ false) → (T (member 5 ks) → two ≡ true)
        → (v : BasicEntry) → WithinLimits bytes index n v → T (member (kind_of v) ks) → ClausalSet bytes two v
    unfolding kind_of
    clausal n two four five Empty l m = tt
    clausal n two four five Init l m = tt
    clausal n two four five Goal l m = tt
    clausal n two four five (Explicit s) l m = three m
    clausal n two four five (Horn s) l m = subst (λ (t : Bool). Ruled bytes t s) (sym (four m)) l
    clausal n two four five (TwoCnf s) l m = subst (λ (t : Bool). Ruled bytes t s) (sym (five m)) l

  -- an array that has so many leaves has room for them
  leaves_room : (leaves : List Leaf) (m : ℕ) (xs : List Asked) → leaves_in leaves m ≡ map (leaf_of index f) xs → m ≡ length xs
      → m ≤ length leaves
  unfolding leaves_in
  leaves_room leaves m xs e n =
      let l : min m (length leaves) ≡ length xs =
      sym (length-take m leaves) ∙ ap length e ∙ length-map xs (leaf_of index f) in
      omega arith

  -- ---- a statement

  module _ (rule a b : ℕ) (left right : List Leaf) (g : Gathered) (h : Gathers f index rule a b left right g) where
    abbrev xs : List Asked
    xs = left_of f rule a b

    abbrev ys : List Asked
    ys = right_of f rule a b

    fewer_left : g.left_count ≤ length left
    fewer_left = leaves_room left g.left_count xs h.left_leaves_are h.left_count_is

    -- what is so of each leaf of the left entries, or of the right ones, is so of the array's
    in_left : (P : Leaf → Type 0) → Each P (map (leaf_of index f) xs) → Each P (leaves_in left g.left_count)
    in_left P = subst (Each P) (sym h.left_leaves_are)

    in_right : (P : Leaf → Type 0) → Each P (map (leaf_of index f) ys) → Each P (leaves_in right g.right_count)
    in_right P = subst (Each P) (sym h.right_leaves_are)

    anchor : g.listed ≡ true → Anchored bytes ends (leaf_in left g.anchor)
    anchor q =
        let w = h.anchored q in
        let P : Leaf → Type 0 = λ y. T (may_anchor (lists_init f) y.set) → ListsStates bytes ends y.set in (
          w.2,
          each_at P left g.left_count fewer_left (in_left P (each_leaf P xs h.basic_left (λ y l _. lists y.set l)))
              g.anchor w.0 w.1,
        )

    -- no leaf lists its states
    module _ (q : g.listed ≡ false) where
      none_listed : T (member 3 (kinds_of f xs) || member 3 (kinds_of f ys)) → ⊥
      none_listed = subst T (sym h.listed ∙ q)

      left_clausal : Each (Clausal bytes g.two) (leaves_in left g.left_count)
      left_clausal =
          in_left (Clausal bytes g.two) (each_leaf (Clausal bytes g.two) xs h.basic_left (λ y. clausal (kinds_of f xs)
          (λ m. none_listed (or_left (member 3 (kinds_of f xs)) (member 3 (kinds_of f ys)) m)) f.task.facts g.two
          (λ m. h.two ∙ is_false (member 5 (kinds_of f xs)) ((h.clauses q).1 m))
          (λ m. h.two ∙ is_true (member 5 (kinds_of f xs)) m) y.set))

      right_unlisted : Each Unlisted (leaves_in right g.right_count)
      right_unlisted =
          in_right Unlisted (each_leaf Unlisted ys h.basic_right (λ y l.
          unlisted (kinds_of f ys) (λ m. none_listed (or_right (member 3 (kinds_of f xs)) (member 3 (kinds_of f ys)) m)) y.set))

    pub searchable : 2 ≤ length right → Searchable bytes index ends left right g
    unfolding ends_of
    searchable pair = record {
      facts = (read_file_lem bytes k.read).task.few_facts;
      room_left = fewer_left;
      room_right = leaves_room right g.right_count ys h.right_leaves_are h.right_count_is;
      pair = pair;
      orderly_left = in_left (λ y. Orderly bytes index y.set) (orderly xs h.basic_left);
      orderly_right = in_right (λ y. Orderly bytes index y.set) (orderly ys h.basic_right);
      anchored = λ q. ((h.anchored q).0, anchor q);
      clausal_left = left_clausal;
      clausal_right = right_unlisted;
      few_right = λ q. (h.clauses q).0;
      no_more = h.no_more;
    }
