-- `views::step_in` meets its contract: it is made of the numbers that are read.
-- Assumes nothing.
-- what is made of a step's kind and entries
use Prim.Native.Nat.{ℕ, ◌+◌}
use mathlib.Core.Path.{◌≡◌, sym}
use Rattle.certificate.specs.Views.{step_read, step_of, judgement_of, clean_of}
use Rattle.file_numbers.proofs.ByteLaws.{read_in}
use borrow.Author.Rules.{rules}
use Rattle.certificate.proofs.views.step_in.Goals as goal

said : {X : Type 0} (f : ℕ → ℕ → ℕ → X) {k l r k' l' r' : ℕ} {x : X} → x ≡ f k l r → k ≡ k' → l ≡ l' → r ≡ r' → x ≡ f k' l' r'
said f e k l r = rw (sym k) (rw (sym l) (rw (sym r) e))

pub returns : goal.returns
unfolding step_read step_of
returns c = λ i.
    let bytes = c.args.file.now in
    let p = c.args.at in
    let kind = read_in 1 bytes (p + 1) (search rules) c.byte_in-kind.ensures in
    let left = read_in 2 bytes (p + 2) (search rules) c.u16_in-left.ensures in
    let right = read_in 2 bytes (p + 4) (search rules) c.u16_in-right.ensures in
    record {
      rule = read_in 1 bytes p (search rules) c.byte_in.ensures i;
      judgement = said judgement_of c.judgement_of.ensures kind left right i;
      clean = said clean_of c.is_clean.ensures kind left right i;
      premises = record {
        first = read_in 2 bytes (p + 6) (search rules) c.u16_in.ensures i;
        second = read_in 2 bytes (p + 8) (search rules) c.u16_in-2.ensures i;
        third = read_in 2 bytes (p + 10) (search rules) c.u16_in-3.ensures i;
      };
    }
