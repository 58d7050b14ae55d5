-- The task is read from its own bytes: what comes after them changes nothing.
-- Assumes nothing.
use mathlib.Core.Path.{◌≡◌, sym, ap, ◌∙◌, subst}
use Prim.Native.Nat.{ℕ, zero, suc, ◌+◌, ◌-◌, ◌≤◌}
use native.Mathlib.Omega.{arith}
use mathlib.Core.Bool.{◌&&◌}
use mathlib.Core.List.{List, []}
use lib.ListN.{length, take, drop, length-drop}
use lib.Seq.{drop-append-le, take-append-le, drop-drop}
use lib.Dec.{leb, eqb, leb→le, le→leb}
use Rattle.task.specs.Task.{Task}
use Rattle.meaning.specs.Result.{Result, found, need}
use Rattle.meaning.specs.Bytes.{big_endian, number, inside}
use Rattle.meaning.specs.Layout.{items, field, count, mask, off_mask, action, goal_at, action_count_at, action_size, unknown_mask, read_task}
use Rattle.meaning.specs.Writing.{file_of, Lawful}
use Rattle.meaning.proofs.Results.{bind_case, bind_in, need_case, need_in, found_same}
use Rattle.meaning.proofs.Suffix.{file_at, length_file}
use Rattle.meaning.proofs.Places.{by_test, places}
use Rattle.meaning.proofs.Off.{read_off, read_no_off}
use Rattle.meaning.proofs.Unknown.{Unknown, none, some, unknown_out, unknown_in}

-- behind the length field, whatever the first reader gives the second gives too
abbrev Same : {A : Type 0} → (ℕ → Result A) → (ℕ → Result A) → Type 0
Same {A} r r' = (p : ℕ) (x : A) → 4 ≤ p → r p ≡ found x → r' p ≡ found x

same_items : {A : Type 0} (r r' : ℕ → Result A) → Same r r' → (size k : ℕ) → Same (λ p. items r size p k) (λ p. items r' size p k)
unfolding items
same_items r r' s size zero p xs h e = e
same_items r r' s size (suc k) p xs h e =
    bind_case (r p) _ xs e λ x x! e₁.
    bind_case (items r size (p + size) k) _ xs e₁ λ ys ys! q.
    bind_in _ (s p x h x!) (bind_in _ (same_items r r' s size k (p + size) ys (omega arith) ys!) q)

module _ (table certificate : List ℕ) where
  abbrev b : List ℕ
  b = file_of table []

  abbrev c : List ℕ
  c = file_of table certificate

  number_in : (z : List ℕ) (k j : ℕ) → j + k ≤ length table → number k (file_of table z) (4 + j) ≡ big_endian 0 (take k (drop j table))
  unfolding number
  number_in z k j h =
      ap (λ (y : List ℕ). big_endian 0 (take k y))
      (sym (drop-drop j 4 (file_of table z)) ∙ ap (drop j) (file_at table z).suffix ∙ drop-append-le j table z (omega arith))
      ∙ ap (big_endian 0) (take-append-le k (drop j table) z (let e = length-drop j table in omega arith))

  same_number : (k p : ℕ) → 4 ≤ p → p + k ≤ length b → number k c p ≡ number k b p
  same_number k p h i =
      let n : length b ≡ 4 + (length table + 0) = length_file table [] in
      let l : p - 4 + k ≤ length table = omega arith in
      let e : 4 + (p - 4) ≡ p = omega arith in
      subst (λ (q : ℕ). number k c q ≡ number k b q) e (number_in certificate k (p - 4) l ∙ sym (number_in [] k (p - 4) l))

  same_field : (k : ℕ) → Same (field b k) (field c k)
  unfolding field inside
  same_field k p x h e =
      need_case (inside k b p) 3 p _ x e λ t q.
      let i : p + k ≤ length b = leb→le (p + k) (length b) t in
      let n : length b ≡ 4 + (length table + 0) = length_file table [] in
      let m : length c ≡ 4 + (length table + length certificate) = length_file table certificate in
      bind_in _ (need_in _ 3 p (le→leb (p + k) (length c) (omega arith))) (ap found (same_number k p h i ∙ found_same q))

  same_mask : (n : ℕ) → Same (mask b n) (mask c n)
  unfolding mask
  same_mask n p x h e = bind_case (field b 8 p) _ x e λ m m! q. bind_in _ (same_field 8 p m h m!) q

  same_count : (low high : ℕ) → Same (count b low high) (count c low high)
  unfolding count
  same_count low high p x h e = bind_case (field b 2 p) _ x e λ m m! q. bind_in _ (same_field 2 p m h m!) q

  same_off : (v n : ℕ) → Same (off_mask b v n) (off_mask c v n)
  same_off v n p x h e =
      by_test (eqb v 3)
      (λ t. read_off c v n p t ∙ same_mask n p x h (sym (read_off b v n p t) ∙ e))
      (λ f. read_no_off c v n p f ∙ sym (read_no_off b v n p f) ∙ e)

  same_action : (v n : ℕ) → Same (action b v n) (action c v n)
  unfolding action
  same_action v n p a h e =
      bind_case (mask b n p) _ a e λ x x! e₁.
      bind_case (mask b n (p + 8)) _ a e₁ λ y y! e₂.
      bind_case (mask b n (p + 16)) _ a e₂ λ z z! e₃.
      bind_case (off_mask b v n (p + 24)) _ a e₃ λ o o! q.
      bind_in _ (same_mask n p x h x!) (bind_in _ (same_mask n (p + 8) y (omega arith) y!)
      (bind_in _ (same_mask n (p + 16) z (omega arith) z!) (bind_in _ (same_off v n (p + 24) o (omega arith) o!) q)))

  same_unknown : (v n s u : ℕ) → Unknown b v n s u → Unknown c v n s u
  same_unknown v n s u (none e z) = none e z
  same_unknown v n s u (some e u! a) = some e (same_mask n 14 u (omega arith) u!) a

  -- what is read of a task's bytes alone is read of a file that begins with them
  pub same_task : (r : Task × ℕ) → read_task (file_of table []) ≡ found r → read_task (file_of table certificate) ≡ found r
  unfolding read_task
  same_task r e =
      bind_case (field b 1 4) _ r e λ v v! e₁.
      bind_case (need (leb 1 v && leb v 3) 2 4) _ r e₁ λ k k! e₂.
      bind_case (field b 1 5) _ r e₂ λ n n! e₃.
      bind_case (need (leb 1 n && leb n 64) 4 5) _ r e₃ λ w w! e₄.
      bind_case (mask b n 6) _ r e₄ λ s s! e₅.
      bind_case (unknown_mask b v n s) _ r e₅ λ u u! e₆.
      bind_case (mask b n (goal_at v)) _ r e₆ λ g g! e₇.
      bind_case (off_mask b v n (goal_at v + 8)) _ r e₇ λ o o! e₈.
      bind_case (count b 0 256 (action_count_at v)) _ r e₈ λ m m! e₉.
      bind_case (items (action b v n) (action_size v) (action_count_at v + 2) m) _ r e₉ λ xs xs! q.
      let at = places v in
      bind_in _ (same_field 1 4 v (omega arith) v!)
      (bind_in _ k!
      (bind_in _ (same_field 1 5 n (omega arith) n!)
      (bind_in _ w!
      (bind_in _ (same_mask n 6 s (omega arith) s!)
      (bind_in _ (unknown_in c v n s (same_unknown v n s u (unknown_out b v n s u u!)))
      (bind_in _ (same_mask n (goal_at v) g (omega arith) g!)
      (bind_in _ (same_off v n (goal_at v + 8) o (omega arith) o!)
      (bind_in _ (same_count 0 256 (action_count_at v) m (omega arith) m!)
      (bind_in _ (same_items (action b v n) (action c v n) (same_action v n) (action_size v) m (action_count_at v + 2) xs (omega arith) xs!)
      q)))))))))

  -- a lawful table reads as its task in every file that begins with it
  pub lawful_reads : (t : Task) → Lawful table t → read_task (file_of table certificate) ≡ found (t, 4 + length table)
  lawful_reads t e = same_task (t, 4 + length table) e
