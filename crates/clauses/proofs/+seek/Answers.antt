-- `clauses::seek` meets its contract.
-- Assumes nothing.
use Rattle.std.proofs.Common.{ℕ, Bool, List, ◌≡◌, ◌<◌, ◌≤◌, refl, ap₂, ◌∙◌, arith, rules}
use Rattle.std.proofs.Math.Dec.{T}
use Rattle.task.specs.declared.Action.{Action}
use Rattle.task.proofs.Tests.{holds}
use Rattle.certificate.specs.declared.BasicEntry.{BasicEntry}
use Rattle.leaves.specs.declared.Leaf.{Leaf}
use Rattle.leaves.specs.Leaves.{leaf_in}
use Rattle.propagation.specs.declared.Assignment.{Assignment}
use Rattle.propagation.specs.declared.Effect.{Effect}
use Rattle.propagation.specs.declared.Setting.{Setting}
use Rattle.propagation.specs.Clauses.{acting, clause_count, clause_of, effect_of, pulled_by, OfLeaf, LeafOf, LeftOf}
use Rattle.propagation.specs.Propagation.{Before, PassedOver, Witness}
use native.Mathlib.Nat.{le_refl}
use Rattle.candidates.proofs.OpenLaws.{before_room, passed_left}
use Rattle.clauses.proofs.SeekLaws.{candidate_base, candidate_found, sought_yes, sought_no, sought_not, ready_next}
use Rattle.clauses.proofs.SeekLaws.{Missing, missing_more, missing_none, missing_past, missing_all}
use Rattle.clauses.proofs.+seek.Invariants.{family}
use Rattle.clauses.proofs.+seek.Goals as goal

-- no witness fails a clause that is passed over
passed_over : (file : List ℕ) (left right : List Leaf) (k : Setting) (set : BasicEntry) (x : Assignment) (act : Action) (by : Effect)
    (before : Bool) (i o j : ℕ) → by ≡ effect_of act → (T before → Before left set) → o ≤ clause_count set
    → PassedOver (clause_of file k.ends set) i before by.changed o
    → Missing (LeftOf file left k) (LeafOf file right k) (family file k.ends set by) i j x
    → Missing (LeftOf file left k) (LeafOf file right k) (family file k.ends set by) o j x
passed_over file left right k set x act by before i o j e b l h m =
    missing_past _ _ (family file k.ends set by) i o j m
    (rw e (passed_left file left k set act i o before (λ t. b (holds t)) l (rw e at h)))

-- where each clause was gone through, there is no witness
all_missed : (file : List ℕ) (left right : List Leaf) (k : Setting) (leaf : Leaf) (x : Assignment) (by : Effect) (i j : ℕ) → j < 2
    → leaf ≡ leaf_in right j → by ≡ effect_of (acting k.action leaf.after) → i ≡ clause_count leaf.set
    → Missing (LeftOf file left k) (LeafOf file right k) (family file k.ends leaf.set by) i j x
    → Witness (LeftOf file left k) (LeafOf file right k) j x → ⊥
all_missed file left right k leaf x by i j l e f n m =
    missing_all _ _ (family _ _ _ _) _ j l (λ d q. q) (rw (n, f, e) at m)

pub returns-then-j-eq2 : goal.returns-then-j-eq2
returns-then-j-eq2 t c = sought_yes _ _ _ (candidate_base _ _ _ c.if-j-eq2.true c.requires.ready (search rules))

pub next_open-requires : goal.next_open-requires
next_open-requires t c = (
  c.loop-o.invariant.0,
  λ e. before_room c.args.q.now.file.now c.args.q.now.left.now c.args.q.now.setting _ c.args.q.now.usable (c.is_before-before.ensures (holds e)),
)

-- every clause that is left is passed over
pub returns : goal.returns
unfolding leaf_in
returns t c =
    let a = c.args in
    let q = a.q.now in
    let leaf = leaf_in a.right.now a.j in
    let upto : Missing (LeftOf q.file.now q.left.now q.setting) (LeafOf q.file.now a.right.now q.setting)
    (family q.file.now q.setting.ends leaf.set c.effect_of-by.result) (clause_count leaf.set) a.j a.x =
    passed_over q.file.now q.left.now a.right.now q.setting _ _ _ _ _ _ _ _ c.effect_of-by.ensures c.is_before-before.ensures (le_refl _)
    (c.in_default.ensures.opens q.setting.ends) c.loop-o.invariant.1 in
    sought_no _ _ _
    (all_missed q.file.now q.left.now a.right.now q.setting leaf _ _ _ _ (omega (arith, c.requires.pair.1, c.if-j-eq2.false))
    refl c.effect_of-by.ensures refl upto)

-- no state fails the clause
pub loop-o-preserved-in_default-assume : goal.loop-o-preserved-in_default-assume
unfolding leaf_in
loop-o-preserved-in_default-assume t c =
    let a = c.args in
    let q = a.q.now in
    let leaf = leaf_in a.right.now a.j in
    let o = c.in-Some.ensures.opens in
    let upto : Missing (LeftOf q.file.now q.left.now q.setting) (LeafOf q.file.now a.right.now q.setting)
    (family q.file.now q.setting.ends leaf.set c.effect_of-by.result) c.in-Some.o a.j a.x =
    passed_over q.file.now q.left.now a.right.now q.setting _ _ _ _ _ _ _ _ c.effect_of-by.ensures c.is_before-before.ensures
    (omega (arith, o.1)) (o.2 q.setting.ends) c.loop-o.invariant.1 in (
      omega (arith, o.1),
      missing_none _ _ (family _ _ _ _) _ _ upto (rw (c.pulled-c.ensures, c.clause_at.ensures) at c.in_default-assume.ensures),
    )

pub seek-requires : goal.seek-requires
seek-requires t c =
    let l : c.args.j < 2 = omega (arith, c.requires.pair.1, c.if-j-eq2.false) in (
      omega (arith, c.decreases),
      ((c.requires.pair.0, omega arith), ready_next c.requires.ready c.in-Some-assume.ensures),
    )

pub returns-then-seek : goal.returns-then-seek
unfolding leaf_in
returns-then-seek t c =
    let a = c.args in
    let q = a.q.now in
    let p : OfLeaf q.file.now q.setting.ends q.setting.action (leaf_in a.right.now a.j) c.pulled-c.result = (
      c.in-Some.o,
      c.in-Some.ensures.opens.1,
      c.pulled-c.ensures ∙ ap₂ pulled_by c.effect_of-by.ensures c.clause_at.ensures,
    ) in
    sought_yes _ _ _ (candidate_found _ _ _ p c.in-Some-assume.ensures (c.seek.ensures.finds (holds c.if-seek.true)))

pub loop-o-preserved : goal.loop-o-preserved
unfolding leaf_in
loop-o-preserved t c =
    let a = c.args in
    let q = a.q.now in
    let leaf = leaf_in a.right.now a.j in
    let o = c.in-Some.ensures.opens in
    let upto : Missing (LeftOf q.file.now q.left.now q.setting) (LeafOf q.file.now a.right.now q.setting)
    (family q.file.now q.setting.ends leaf.set c.effect_of-by.result) c.in-Some.o a.j a.x =
    passed_over q.file.now q.left.now a.right.now q.setting _ _ _ _ _ _ _ _ c.effect_of-by.ensures c.is_before-before.ensures
    (omega (arith, o.1)) (o.2 q.setting.ends) c.loop-o.invariant.1 in (
      omega (arith, o.1),
      missing_more _ _ (family _ _ _ _) _ _ upto
          (rw (c.pulled-c.ensures, c.clause_at.ensures) at c.in-Some-assume.ensures)
          (sought_not _ _ _ c.seek.ensures c.if-seek.false),
    )
