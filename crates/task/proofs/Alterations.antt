-- Single alterations of a task (document 02, k) make just the tasks that are stricter.
-- Assumes nothing.
use mathlib.Core.Path.{◌≡◌, refl, sym, ap, subst, ◌∙◌}
use mathlib.Core.Logic.{inl, inr, ◌↔◌}
use Prim.Native.Nat.{ℕ}
use mathlib.Core.List.{List, [], ◌∷◌, ◌++◌, append_assoc, append-nil}
use lib.Dec.{T}
use Rattle.task.specs.Task.{Task}
use Rattle.task.specs.Reach.{every}
use Rattle.task.specs.Stricter.{any, keeps_needs, needs_more, keeps_goal, stricter, with_needs, with_actions, with_forbidden, Altered}
use Rattle.task.specs.Stricter.{taken_away, needs_added, facts_added, repeated, Alterations, unaltered, then}
use Rattle.task.specs.declared.Action.{Action}
use Rattle.task.proofs.Tests.{and_left, and_right, and_both}
use Rattle.task.proofs.Lists.{any_more, any_here, any_stays, any_added, any_split}
use Rattle.task.proofs.StricterLaws.{were_added, masks_added, needs_parts, Among, stricter_parts, needs_further, among}
use Rattle.task.proofs.StricterLaws.{with_actions_lem, stricter_itself, stricter_further}

-- ---- an altered task is stricter

-- with needs added
more_needs : (a : Action) (on off : ℕ) → T (needs_more (with_needs a on off) a)
unfolding with_needs keeps_needs
more_needs a on off =
    (needs_parts (with_needs a on off) a).1 (record { needs = masks_added a.pre a.off on off; add = refl; del = refl })

-- one action takes another's place
replaced : (a b : Action) (xs ys zs : List Action) → T (needs_more b a) → Among (xs ++ a ∷ ys) zs → Among (xs ++ b ∷ ys) zs
unfolding every
replaced a b [] ys zs h k =
    let p = and_left (any (needs_more a) zs) (every (λ x. any (needs_more x) zs) ys) k in
    and_both (any (needs_more b) zs) _ (any_more (needs_more a) (needs_more b) (λ x. needs_further b a x h) zs p)
    (and_right (any (needs_more a) zs) (every (λ x. any (needs_more x) zs) ys) k)
replaced a b (x ∷ xs) ys zs h k =
    let p = and_right (any (needs_more x) zs) (every (λ x. any (needs_more x) zs) (xs ++ a ∷ ys)) k in
    and_both (any (needs_more x) zs) _ (and_left (any (needs_more x) zs) (every (λ x. any (needs_more x) zs) (xs ++ a ∷ ys)) k)
    (replaced a b xs ys zs h p)

altered_stricter : (t u : Task) → Altered t u → T (stricter u t)
unfolding with_forbidden keeps_goal
altered_stricter t u (taken_away xs ys a e q) =
    subst (λ (x : Task). T (stricter x t)) (sym q)
    (with_actions_lem t (xs ++ ys) (rw e (among (xs ++ ys) (xs ++ a ∷ ys) (λ p. any_stays p xs ys a))))
altered_stricter t u (needs_added xs ys a on off e q) =
    subst (λ (x : Task). T (stricter x t)) (sym q)
    (with_actions_lem t _ (rw e
    (replaced a (with_needs a on off) xs ys (xs ++ a ∷ ys) (more_needs a on off) (among (xs ++ a ∷ ys) (xs ++ a ∷ ys) (λ p h. h)))))
altered_stricter t u (facts_added on off q) =
    subst (λ (x : Task). T (stricter x t)) (sym q)
    ((stricter_parts (with_forbidden t on off) t).1 (record {
      facts = refl;
      init = refl;
      unknown = refl;
      goal = masks_added t.goal t.off on off;
      actions = among t.actions t.actions (λ p h. h);
    }))
altered_stricter t u (repeated xs ys vs ws a e f q) =
    subst (λ (x : Task). T (stricter x t)) (sym q)
    (with_actions_lem t (vs ++ a ∷ ws) (among (vs ++ a ∷ ws) t.actions (λ p h.
    elim (any_added p vs ws a h) [
      | inl k ↦ rw e (any_here p xs ys a k)
      | inr k ↦ rw f k
    ])))

alterations_stricter : {t u : Task} → Alterations t u → T (stricter u t)
alterations_stricter {t} unaltered = stricter_itself t
alterations_stricter {t} (then {u = v} {v = u} h a) = stricter_further u v t (altered_stricter v u a) (alterations_stricter h)

-- ---- a stricter task is made by alterations

chained : {t u v : Task} → Alterations t u → Alterations u v → Alterations t v
chained h unaltered = h
chained h (then k a) = then (chained h k) a

-- an action with more needs is the other with needs added
needs_were_added : (a b : Action) → T (needs_more a b) → with_needs b a.pre a.off ≡ a
unfolding with_needs keeps_needs
needs_were_added a b h =
    let m = (needs_parts a b).0 h in
    let (on, off) = were_added b.pre b.off a.pre a.off m.needs in
    rw (on, off, sym m.add, sym m.del) refl

module _ (t : Task) where
  -- each action is written once more, in front, and gets its needs
  written : (xs ys : List Action) → Among xs ys → Alterations (with_actions t ys) (with_actions t (xs ++ ys))
  unfolding every with_actions
  written [] ys h = unaltered
  written (a ∷ xs) ys h =
      let (vs, b, ws, e, m) = any_split (needs_more a) ys (and_left (any (needs_more a) ys) _ h) in
      then
      (then (written xs ys (and_right (any (needs_more a) ys) _ h))
      (repeated (xs ++ vs) ws [] (xs ++ ys) b (ap (λ (zs : List Action). xs ++ zs) e ∙ sym (append_assoc xs vs (b ∷ ws))) refl refl))
      (needs_added [] (xs ++ ys) b a.pre a.off refl
      (ap (λ (c : Action). with_actions t (c ∷ xs ++ ys)) (sym (needs_were_added a b m))))

  -- and the others are taken away
  left_out : (xs ys : List Action) → Alterations (with_actions t (xs ++ ys)) (with_actions t xs)
  unfolding with_actions
  left_out xs [] = subst (λ (zs : List Action). Alterations (with_actions t zs) (with_actions t xs)) (sym (append-nil xs)) unaltered
  left_out xs (y ∷ ys) = chained (then unaltered (taken_away xs ys y refl refl)) (left_out xs ys)

stricter_alterations : (t u : Task) → T (stricter t u) → Alterations u t
unfolding with_actions with_forbidden keeps_goal
stricter_alterations t u h =
    let m = (stricter_parts t u).0 h in
    let (on, off) = were_added u.goal u.off t.goal t.off m.goal in
    let e : with_actions t u.actions ≡ with_forbidden u t.goal t.off =
    rw (m.facts, m.init, m.unknown, on, off) refl in
    chained (then unaltered (facts_added t.goal t.off e))
    (chained (written t t.actions u.actions m.actions) (left_out t t.actions u.actions))

pub by_alterations : (t u : Task) → T (stricter t u) ↔ Alterations u t
by_alterations t u = (stricter_alterations t u, alterations_stricter)
