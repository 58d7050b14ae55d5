-- An inclusion of a permitted shape is true if and only if it has no counterexample over its leaves.
-- Assumes nothing.
use mathlib.Core.Path.{◌≡◌, refl, ap, subst, sym, ◌∙◌}
use mathlib.Core.Logic.Iff
use mathlib.Core.Logic.{◌↔◌, inl, inr}
use Prim.Native.Nat.{ℕ, ◌^◌, ◌<◌}
use mathlib.Core.Bool.{Bool, true, false, not, ◌&&◌, and_comm}
use mathlib.Core.List.{List, [], ◌∷◌}
use lib.ListN.{length}
use lib.Dec.{T, eqb}
use Rattle.task.specs.declared.Action.{Action}
use Rattle.task.specs.Task.{action_at, applies, after}
use Rattle.task.specs.Reach.{every}
use Rattle.task.proofs.Tests.{excluded, never}
use Rattle.task.proofs.Names.{nothing_applies}
use Rattle.task.proofs.Moves.{Bounded}
use Rattle.meaning.specs.File.{File, state_set_at, second}
use Rattle.meaning.proofs.Order.{Ordered}
use Rattle.meaning.specs.Sets.{in_actions, in_set, states_within}
use Rattle.meaning.specs.Shapes.{keep, Sides, kind_at, child, leaves}
use Rattle.task.specs.Inner.{no_action}
use Rattle.counterexample.specs.Counter.{ActionsOf, seen, Counter, left_leaves, right_leaves}
use Rattle.meaning.proofs.Sets.{and_iff, within, at_progression, at_regression}
use Rattle.counterexample.proofs.Lists.{any, every_one, any_one, not_any, every_split, kept_passes, tests_agree}
use Rattle.counterexample.proofs.LeafLaws.{in_intersections, in_unions}
use Rattle.counterexample.proofs.Moved.{as_written}

-- ---- in general

-- entry e holds state u
abbrev holding : File → ℕ → ℕ → Bool
holding f u e = in_set f e u

-- no action and state make the statement with these leaves untrue
abbrev pub NoCounter : File → (Action → Type 0) → Bool → Sides → Type 0
NoCounter f acts h x = Counter f acts (left_leaves f h x) (right_leaves f h x) → ⊥

-- an action applies in a state; of this state and the one after it, one is u, and in the other every entry of the list holds
record Entered (f : File) (acts : Action → Type 0) (h : Bool) (inner : List ℕ) (u : ℕ) : Type 0 where
  action : Action
  chosen : acts action
  state : ℕ
  low : state < 2 ^ f.task.facts
  allowed : T (applies action state)
  leads : seen h action state ≡ u
  inside : T (every (holding f (seen (not h) action state)) inner)

module _ (f : File) (o : Ordered f) (acts : Action → Type 0) (h : Bool) (x : Sides) (a b : ℕ)
    (left : (u : ℕ) → u < 2 ^ f.task.facts → T (in_set f a u) ↔ (T (every (holding f u) x.outer) × Entered f acts h x.inner u))
    (right : (u : ℕ) → in_set f b u ≡ any (holding f u) x.right)
    (stays : (c : Action) (s : ℕ) → acts c → s < 2 ^ f.task.facts → seen h c s < 2 ^ f.task.facts) where
  -- no right leaf holds where b does not
  none_right : (u : ℕ) → T (every (λ e. not (in_set f e u)) x.right) ↔ T (not (in_set f b u))
  none_right u = tests_agree (not_any (holding f u) x.right ∙ ap not (sym (right u)))

  reduced : T (states_within f a b) ↔ NoCounter f acts h x
  reduced = (
    (λ t c.
        let u : ℕ = seen h c.action c.state in
        let l : u < 2 ^ f.task.facts = stays c.action c.state c.chosen c.low in
        let w = (as_written f o x c.action c.state h).0 (c.holds, c.fails) in
        let e : Entered f acts h x.inner u = record {
          action = c.action;
          chosen = c.chosen;
          state = c.state;
          low = c.low;
          allowed = c.allowed;
          leads = refl;
          inside = w.1;
        } in
        never (in_set f b u) ((within f a b).0 t (u, l) ((left u l).1 (w.0.0, e))) ((none_right u).0 w.0.1)),
    (λ n. (within f a b).1 (λ u i. elim (excluded (in_set f b u.0)) [
      | inl y ↦ y
      | inr m ↦ absurd (n (
          let w = (left u.0 u.1).0 i in
          let e : Entered f acts h x.inner u.0 = w.1 in
          let p = (as_written f o x e.action e.state h).1 (
            subst (λ (v : ℕ). T (every (holding f v) x.outer) × T (every (λ d. not (in_set f d v)) x.right)) (sym e.leads)
                (w.0, (none_right u.0).1 m),
            e.inside,
          ) in
          record {
            action = e.action;
            chosen = e.chosen;
            state = e.state;
            low = e.low;
            allowed = e.allowed;
            holds = p.0;
            fails =
                p.1;
          }))
    ])),
  )

-- ---- B1 and B4: no bracket

abbrev pub sides_of : List ℕ → List ℕ → Sides
sides_of outer right = record { outer = outer; inner = []; right = right }

module _ (f : File) (o : Ordered f) where
  without_bracket : (outer right : List ℕ) (a b : ℕ)
      → ((u : ℕ) → in_set f a u ≡ every (holding f u) outer) → ((u : ℕ) → in_set f b u ≡ any (holding f u) right)
      → T (states_within f a b) ↔ NoCounter f (λ c. c ≡ no_action) false (sides_of outer right)
  unfolding every
  without_bracket outer right a b l r =
      reduced f o (λ c. c ≡ no_action) false (sides_of outer right) a b
      (λ u low. (
        (λ t. (
          subst T (l u) t,
          record {
            action = no_action;
            chosen = refl;
            state = u;
            low = low;
            allowed = nothing_applies u;
            leads =
                refl;
            inside = tt;
          },
        )),
        (λ p. subst T (sym (l u)) p.0),
      ))
      r (λ c s _ low. low)

  -- B1: intersections within unions
  pub truth_1 : (a b : ℕ) → T (states_within f a b) ↔ NoCounter f (λ c. c ≡ no_action) false (sides_of (leaves f 7 a) (leaves f 8 b))
  truth_1 a b = without_bracket (leaves f 7 a) (leaves f 8 b) a b (λ u. in_intersections f o u a) (λ u. in_unions f o u b)

  -- B4: single entries
  pub truth_4 : (a b : ℕ) → T (states_within f a b) ↔ NoCounter f (λ c. c ≡ no_action) false (sides_of (a ∷ []) (b ∷ []))
  truth_4 a b = without_bracket (a ∷ []) (b ∷ []) a b (λ u. sym (every_one (holding f u) a)) (λ u. sym (any_one (holding f u) b))

-- ---- B2 and B3: one left leaf is a progression or a regression

-- the leaves outside the bracket of entry p, of kind k, those inside it, and those of the right side
abbrev pub sides_with : File → ℕ → ℕ → ℕ → ℕ → Sides
sides_with f k a p b = record {
  outer = keep (λ e. not (eqb (kind_at f e) k)) (leaves f 7 a);
  inner = leaves f 7 (child f p);
  right =
      leaves f 8 b;
}

module _ (f : File) (o : Ordered f) (b : Bounded f.task) where
  -- an action of the bracket applies in a state; of this state and the one after it, one is u, and p's child holds the other
  record Bracket (h : Bool) (p u : ℕ) : Type 0 where
    state : ℕ
    low : state < 2 ^ f.task.facts
    number : ℕ
    there : number < length f.task.actions
    chosen : T (in_actions f (second (state_set_at f p)) number)
    allowed : T (applies (action_at f.task number) state)
    leads : seen h (action_at f.task number) state ≡ u
    inside : T (in_set f (child f p) (seen (not h) (action_at f.task number) state))

  in_progression : (p u : ℕ) → T (eqb (kind_at f p) 9) → u < 2 ^ f.task.facts → T (in_set f p u) ↔ Bracket true p u
  unfolding kind_at child
  in_progression p u k l = (
    (λ t.
        let (s, i, x, c, m) = (at_progression f o b p k (u, l)).1 t in
        record { state = s.0; low = s.1; number = i.0; there = i.1; chosen = c; allowed = m.0; leads = m.1; inside = x }),
    (λ r. (at_progression f o b p k (u, l)).0 ((r.state, r.low), (r.number, r.there), r.inside, r.chosen, (r.allowed, r.leads))),
  )

  in_regression : (p u : ℕ) → T (eqb (kind_at f p) 10) → u < 2 ^ f.task.facts → T (in_set f p u) ↔ Bracket false p u
  unfolding kind_at child
  in_regression p u k l = (
    (λ t.
        let (v, i, x, c, m) = (at_regression f o b p k (u, l)).1 t in
        record {
          state = u;
          low = l;
          number = i.0;
          there = i.1;
          chosen = c;
          allowed = m.0;
          leads = refl;
          inside = subst (λ (w : ℕ). T (in_set f (child f p) w)) (sym m.1) x;
        }),
    (λ r.
        let n : after (action_at f.task r.number) r.state < 2 ^ f.task.facts =
        b.after r.number r.state r.there r.low in
        subst (λ (w : ℕ). T (in_set f p w)) r.leads
        ((at_regression f o b p k (r.state, r.low)).0
        ((after (action_at f.task r.number) r.state, n), (r.number, r.there), r.inside, r.chosen, (r.allowed, refl)))),
  )

  entered : (h : Bool) (p u : ℕ) → Bracket h p u ↔ Entered f (ActionsOf f (second (state_set_at f p))) h (leaves f 7 (child f p)) u
  entered h p u = (
    (λ r.
        let c : Action = action_at f.task r.number in
        record {
          action = c;
          chosen = (r.number, r.there, r.chosen, refl);
          state = r.state;
          low = r.low;
          allowed = r.allowed;
          leads = r.leads;
          inside = subst T (in_intersections f o (seen (not h) c r.state) (child f p)) r.inside;
        }),
    (λ e.
        let (i, l, m, q) = e.chosen in
        let w = subst (λ (c : Action). T (applies c e.state) × (seen h c e.state ≡ u)
        × T (in_set f (child f p) (seen (not h) c e.state))) q
        (e.allowed, e.leads, subst T (sym (in_intersections f o (seen (not h) e.action e.state) (child f p))) e.inside) in
        record { state = e.state; low = e.low; number = i; there = l; chosen = m; allowed = w.0; leads = w.1; inside = w.2 }),
  )

  stays : (h : Bool) (e : ℕ) (c : Action) (s : ℕ) → ActionsOf f e c → s < 2 ^ f.task.facts → seen h c s < 2 ^ f.task.facts
  stays true e c s m l = subst (λ (d : Action). after d s < 2 ^ f.task.facts) (sym m.3) (b.after m.0 s m.1 l)
  stays false e c s m l = l

  module _ (k : ℕ) (h : Bool) (law : (p u : ℕ) → T (eqb (kind_at f p) k) → u < 2 ^ f.task.facts → T (in_set f p u) ↔ Bracket h p u)
      (a c p : ℕ)
      (only : keep (λ e. eqb (kind_at f e) k) (leaves f 7 a) ≡ p ∷ []) where
    abbrev kinded : ℕ → Bool
    kinded e = eqb (kind_at f e) k

    abbrev sides : Sides
    sides = sides_with f k a p c

    of_kind_lem : T (kinded p)
    of_kind_lem = subst T (ap (every kinded) only ∙ every_one kinded p) (kept_passes kinded (leaves f 7 a))

    -- the left side holds what p and the leaves outside the bracket hold
    apart : (u : ℕ) → in_set f a u ≡ (every (holding f u) sides.outer && in_set f p u)
    apart u =
        in_intersections f o u a
        ∙ every_split kinded (holding f u) (leaves f 7 a)
        ∙ and_comm (every (holding f u) (keep kinded (leaves f 7 a))) (every (holding f u) sides.outer)
        ∙ ap (λ (t : Bool). every (holding f u) sides.outer && t) (ap (every (holding f u)) only ∙ every_one (holding f u) p)

    with_bracket : T (states_within f a c) ↔ NoCounter f (ActionsOf f (second (state_set_at f p))) h sides
    with_bracket =
        reduced f o (ActionsOf f (second (state_set_at f p))) h sides a c
        (λ u l.
        Iff.trans (tests_agree (apart u)) (Iff.trans (Iff.symm (and_iff (every (holding f u) sides.outer) (in_set f p u)))
        (Iff.and Iff.rfl (Iff.trans (law p u of_kind_lem l) (entered h p u)))))
        (λ u. in_unions f o u c) (stays h (second (state_set_at f p)))

  -- B2: what the actions of the bracket make of its states, within unions
  pub truth_2 : (a c p : ℕ) → keep (λ e. eqb (kind_at f e) 9) (leaves f 7 a) ≡ p ∷ []
      → T (states_within f a c) ↔ NoCounter f (ActionsOf f (second (state_set_at f p))) true (sides_with f 9 a p c)
  truth_2 = with_bracket 9 true in_progression

  -- B3: the states from which an action of the bracket leads into it, within unions
  pub truth_3 : (a c p : ℕ) → keep (λ e. eqb (kind_at f e) 10) (leaves f 7 a) ≡ p ∷ []
      → T (states_within f a c) ↔ NoCounter f (ActionsOf f (second (state_set_at f p))) false (sides_with f 10 a p c)
  truth_3 = with_bracket 10 false in_regression
