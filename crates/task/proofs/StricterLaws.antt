-- Stricter tasks (document 02, k): the test is reflexive and transitive, and a task that is stricter than a safe one is safe.
-- Assumes nothing.
use mathlib.Core.Path.{◌≡◌, refl, sym, ap, subst, ◌∙◌}
use mathlib.Core.Logic.{inl, inr, ◌↔◌}
use Prim.Native.Nat.{ℕ, ◌<◌}
use native.Mathlib.Nat.{le_trans, le_refl}
use native.Mathlib.Omega.{arith}
use mathlib.Core.Bool.{Bool, ◌&&◌}
use mathlib.Core.List.{List, [], ◌∷◌}
use lib.ListN.{length}
use lib.Bits.{bit_or}
use lib.Dec.{T, eqb, eqb→eq}
use Rattle.task.specs.Facts.{all_on, all_off}
use Rattle.task.specs.Inner.{bit}
use Rattle.task.specs.Task.{Task, action_at, is_init, is_goal, applies, after, next, run}
use Rattle.task.specs.Reach.{every, Sequence, Safe, Unsolvable}
use Rattle.task.specs.Stricter.{any, keeps_needs, needs_more, keeps_goal, stricter, with_actions}
use Rattle.task.specs.declared.Action.{Action}
use Rattle.task.proofs.Tests.{and_left, and_right, and_both, or_cases, or_left, or_right, never, not_of, same}
use Rattle.task.proofs.Lists.{every_place, every_more, any_place, any_more}
use Rattle.task.proofs.Bits.{bit_or_lem, same_bits, all_on_at, all_on_of, told_facts, told_of}
use Rattle.task.proofs.Moves.{next_cases, applied, safe_unsolvable, unsolvable_safe}

-- ---- two masks, the one of facts on and the other of facts off, beside two that have their facts and perhaps more

module _ (on off on' off' : ℕ) (h : T (all_on on on' && all_on off off')) where
  more_on : T (all_on on on')
  more_on = and_left (all_on on on') (all_on off off') h

  more_off : T (all_on off off')
  more_off = and_right (all_on on on') (all_on off off') h

  -- what meets these meets those
  told_fewer : (s : ℕ) → T (all_on on' s && all_off off' s) → T (all_on on s && all_off off s)
  told_fewer s t =
      told_of on off s (λ f.
      let k = told_facts on' off' s t f in
      (le_trans (all_on_at on on' more_on f) k.0, omega (arith, k.1, all_on_at off off' more_off f)))

  masks_further : (on'' off'' : ℕ) → T (all_on on' on'' && all_on off' off'') → T (all_on on on'' && all_on off off'')
  masks_further on'' off'' k =
      and_both (all_on on on'') (all_on off off'')
      (all_on_of on on'' (λ f. le_trans (all_on_at on on' more_on f) (all_on_at on' on'' (and_left (all_on on' on'') (all_on off' off'') k) f)))
      (all_on_of off off'' (λ f.
      le_trans (all_on_at off off' more_off f) (all_on_at off' off'' (and_right (all_on on' on'') (all_on off' off'') k) f)))

  -- they are those with facts added
  pub were_added : (bit_or on on' ≡ on') × (bit_or off off' ≡ off')
  were_added = (
    same_bits (bit_or on on') on' (λ f. omega (arith, bit_or_lem f on on', all_on_at on on' more_on f)),
    same_bits (bit_or off off') off' (λ f. omega (arith, bit_or_lem f off off', all_on_at off off' more_off f)),
  )

pub masks_added : (on off x y : ℕ) → T (all_on on (bit_or on x) && all_on off (bit_or off y))
masks_added on off x y =
    and_both (all_on on (bit_or on x)) (all_on off (bit_or off y))
    (all_on_of on (bit_or on x) (λ f. omega (arith, bit_or_lem f on x)))
    (all_on_of off (bit_or off y) (λ f. omega (arith, bit_or_lem f off y)))

pub masks_itself : (on off : ℕ) → T (all_on on on && all_on off off)
masks_itself on off =
    and_both (all_on on on) (all_on off off) (all_on_of on on (λ f. le_refl (bit f on))) (all_on_of off off (λ f. le_refl (bit f off)))

-- ---- the tests by their parts

pub record NeedsMore (a b : Action) : Type 0 where
  pub needs : T (keeps_needs a b)
  pub add : a.add ≡ b.add
  pub del : a.del ≡ b.del

module _ (a b : Action) where
  pub needs_parts : T (needs_more a b) ↔ NeedsMore a b
  unfolding needs_more
  needs_parts =
      let p = keeps_needs a b in
      let q = eqb a.add b.add in
      let r = eqb a.del b.del in (
        (λ t. let u = and_left (p && q) r t in
            record {
              needs = and_left p q u;
              add = eqb→eq a.add b.add (and_right p q u);
              del = eqb→eq a.del b.del (and_right (p && q) r t);
            }),
        (λ n. and_both (p && q) r (and_both p q n.needs (same n.add)) (same n.del)),
      )

-- each of these actions is one of those, perhaps with more needs
abbrev pub Among : List Action → List Action → Type 0
Among xs ys = T (every (λ a. any (needs_more a) ys) xs)

pub record Stricter (t u : Task) : Type 0 where
  pub facts : t.facts ≡ u.facts
  pub init : t.init ≡ u.init
  pub unknown : t.unknown ≡ u.unknown
  pub goal : T (keeps_goal t u)
  pub actions : Among t.actions u.actions

module _ (t u : Task) where
  pub stricter_parts : T (stricter t u) ↔ Stricter t u
  unfolding stricter
  stricter_parts =
      let n = eqb t.facts u.facts in
      let i = eqb t.init u.init in
      let k = eqb t.unknown u.unknown in
      let g = keeps_goal t u in
      let s = every (λ a. any (needs_more a) u.actions) t.actions in (
        (λ c₅.
            let c₄ = and_left (n && i && k && g) s c₅ in
            let c₃ = and_left (n && i && k) g c₄ in
            let c₂ = and_left (n && i) k c₃ in
            record {
              facts = eqb→eq t.facts u.facts (and_left n i c₂);
              init = eqb→eq t.init u.init (and_right n i c₂);
              unknown = eqb→eq t.unknown u.unknown (and_right (n && i) k c₃);
              goal = and_right (n && i && k) g c₄;
              actions = and_right (n && i && k && g) s c₅;
            }),
        (λ p.
            let c₂ = and_both n i (same p.facts) (same p.init) in
            let c₃ = and_both (n && i) k c₂ (same p.unknown) in
            and_both (n && i && k && g) s (and_both (n && i && k) g c₃ p.goal) p.actions),
      )

-- ---- a stricter task is safe where the other is

-- where an action with more needs applies, the other does, and leads to the same state
next_too : (a b : Action) (s : ℕ) → T (needs_more a b) → T (applies a s) → next b s ≡ after a s
unfolding applies after keeps_needs
next_too a b s h t =
    let m = (needs_parts a b).0 h in
    applied b s (told_fewer b.pre b.off a.pre a.off m.needs s t) ∙ rw (m.add, m.del) refl

module _ (t u : Task) (h : Stricter t u) where
  action_in_lem : (i : ℕ) → i < length t.actions → (j : ℕ) × (j < length u.actions) × T (needs_more (action_at t i) (action_at u j))
  unfolding action_at
  action_in_lem i l =
      any_place (needs_more (action_at t i)) _ u.actions
      (every_place (λ a. any (needs_more a) u.actions) _ t.actions h.actions i l)

  -- a sequence of t leads where one of u does: its actions that apply, by their numbers in u
  followed : (is : List ℕ) (s : ℕ) → Sequence t is → (js : List ℕ) × Sequence u js × (run u s js ≡ run t s is)
  unfolding run
  followed [] s q = ([], tt, refl)
  followed (i ∷ is) s q =
      let a = action_at t i in
      let r = followed is (next a s) q.1 in
      let (j, l, m) = action_in_lem i q.0 in
      elim (next_cases a s) [
        | inl c ↦ (j ∷ r.0, (l, r.1), ap (λ (x : ℕ). run u x r.0) (next_too a (action_at u j) s m c.0 ∙ sym c.1) ∙ r.2)
        | inr e ↦ (r.0, r.1, ap (λ (x : ℕ). run u x r.0) (sym e) ∙ r.2)
      ]

  init_too : (s : ℕ) → T (is_init t s) → T (is_init u s)
  unfolding is_init
  init_too s i = rw (h.init, h.unknown) at i

  goal_too : (s : ℕ) → T (is_goal t s) → T (is_goal u s)
  unfolding is_goal keeps_goal
  goal_too s g = told_fewer u.goal u.off t.goal t.off h.goal s g

  unsolvable_too : Unsolvable u → Unsolvable t
  unsolvable_too k s is i q =
      let (js, p, e) = followed is s q in
      not_of (is_goal t (run t s is)) (λ g.
      never (is_goal u (run u s js)) (subst (λ (x : ℕ). T (is_goal u x)) (sym e) (goal_too (run t s is) g)) (k s js (init_too s i) p))

pub stricter_safe : (t u : Task) → T (stricter t u) → Safe u → Safe t
stricter_safe t u h k = unsolvable_safe t (unsolvable_too t u ((stricter_parts t u).0 h) (safe_unsolvable u k))

-- ---- each is as strict as itself, and what is stricter than a stricter one is stricter

needs_itself : (a : Action) → T (needs_more a a)
unfolding keeps_needs
needs_itself a = (needs_parts a a).1 (record { needs = masks_itself a.pre a.off; add = refl; del = refl })

pub needs_further : (a b c : Action) → T (needs_more a b) → T (needs_more b c) → T (needs_more a c)
unfolding keeps_needs
needs_further a b c g h =
    let m = (needs_parts a b).0 g in
    let n = (needs_parts b c).0 h in
    (needs_parts a c).1 (record {
      needs = masks_further c.pre c.off b.pre b.off n.needs a.pre a.off m.needs;
      add = m.add ∙ n.add;
      del = m.del ∙ n.del;
    })

-- these actions are among those where each of them stands there
pub among : (xs ys : List Action) → ((p : Action → Bool) → T (any p xs) → T (any p ys)) → Among xs ys
unfolding every any
among [] ys h = tt
among (x ∷ xs) ys h =
    and_both (any (needs_more x) ys) (every (λ a. any (needs_more a) ys) xs)
    (h (needs_more x) (or_left (needs_more x x) (any (needs_more x) xs) (needs_itself x)))
    (among xs ys (λ p k. h p (or_right (p x) (any p xs) k)))

one_further : (a : Action) (ys zs : List Action) → T (any (needs_more a) ys) → Among ys zs → T (any (needs_more a) zs)
unfolding every any
one_further a [] zs g h = absurd g
one_further a (y ∷ ys) zs g h =
    elim (or_cases (needs_more a y) (any (needs_more a) ys) g) [
      | inl k ↦ any_more (needs_more y) (needs_more a) (λ b. needs_further a y b k) zs (and_left (any (needs_more y) zs) _ h)
      | inr k ↦ one_further a ys zs k (and_right (any (needs_more y) zs) _ h)
    ]

among_further : (xs ys zs : List Action) → Among xs ys → Among ys zs → Among xs zs
among_further xs ys zs g h = every_more _ _ (λ a k. one_further a ys zs k h) xs g

-- a task whose actions alone are others
pub with_actions_lem : (t : Task) (xs : List Action) → Among xs t.actions → T (stricter (with_actions t xs) t)
unfolding with_actions keeps_goal
with_actions_lem t xs h = (stricter_parts (with_actions t xs) t).1 (record {
  facts = refl;
  init = refl;
  unknown = refl;
  goal = masks_itself t.goal t.off;
  actions = h;
})

pub stricter_itself : (t : Task) → T (stricter t t)
unfolding with_actions
stricter_itself t = with_actions_lem t t.actions (among t.actions t.actions (λ p h. h))

pub stricter_further : (t u v : Task) → T (stricter t u) → T (stricter u v) → T (stricter t v)
unfolding keeps_goal
stricter_further t u v g h =
    let m = (stricter_parts t u).0 g in
    let n = (stricter_parts u v).0 h in
    (stricter_parts t v).1 (record {
      facts = m.facts ∙ n.facts;
      init = m.init ∙ n.init;
      unknown = m.unknown ∙ n.unknown;
      goal = masks_further v.goal v.off u.goal u.off n.goal t.goal t.off m.goal;
      actions = among_further t.actions u.actions v.actions m.actions n.actions;
    })
