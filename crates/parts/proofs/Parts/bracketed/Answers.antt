-- `parts::Parts::bracketed` meets its contract.
-- Assumes nothing.
use mathlib.Core.Path.{refl}
use mathlib.Core.Bool.{not}
use native.Mathlib.Omega.{arith}
use borrow.Author.Rules.{rules}
use lib.Dec.{eqb}
use Rattle.certificate.specs.Known.{decoded}
use Rattle.certificate.proofs.KnownLaws.{read_ordered}
use Rattle.meaning.specs.Shapes.{kind_at}
use Rattle.nodes.proofs.NodeLaws.{node_first, node_second}
use Rattle.parts.proofs.PartLaws.{no_bracket, not_one, many_inside, many_within, with_bracket}
use Rattle.parts.proofs.Parts.bracketed.Goals as goal

pub returns-in_err-all : goal.returns-in_err-all
returns-in_err-all c =
    let h = no_bracket _ (read_ordered _ c.args.file.now.known.read) c.args.k c.args.a c.args.b
    (λ w. omega (arith, w.few_left, c.in_err-all.ensures)) in
    search rules

pub returns-in_err-right : goal.returns-in_err-right
returns-in_err-right c =
    let h = no_bracket _ (read_ordered _ c.args.file.now.known.read) c.args.k c.args.a c.args.b
    (λ w. omega (arith, w.few_right, c.in_err-right.ensures)) in
    search rules

pub returns-in_default : goal.returns-in_default
returns-in_default c =
    let f = decoded c.args.file.now.bytes.now in
    let o = read_ordered _ c.args.file.now.known.read in
    let y = c.filter-found.ensures (λ e. eqb (kind_at f e) c.args.k) (λ e r h. search (rules, h)) in
    not_one f o _ _ _ _ _ c.in_ok-all.ensures.0 y _ c.entries.ensures (λ e. omega (arith, c.in_default.len_below, e))

pub returns-in_default-2 : goal.returns-in_default-2
returns-in_default-2 c =
    let f = decoded c.args.file.now.bytes.now in
    let o = read_ordered _ c.args.file.now.known.read in
    let y = c.filter-found.ensures (λ e. eqb (kind_at f e) c.args.k) (λ e r h. search (rules, h)) in
    not_one f o _ _ _ _ _ c.in_ok-all.ensures.0 y _ c.entries.ensures (λ e. omega (arith, c.in_default.len_at_least, e))

pub returns-in_err-inner : goal.returns-in_err-inner
returns-in_err-inner c =
    let f = decoded c.args.file.now.bytes.now in
    let o = read_ordered _ c.args.file.now.known.read in
    let y = c.filter-found.ensures (λ e. eqb (kind_at f e) c.args.k) (λ e r h. search (rules, h)) in
    let h = many_inside f o c.args.k c.args.a c.args.b _ _ c.in_ok-all.ensures.0 y _ c.entries.ensures (omega (arith, c.in-len1.len_at_least, c.in-len1.len_below)) _
    (node_first _ _ _ _ c.node_at-x.ensures) c.in_err-inner.ensures in
    search rules

pub returns-then-outer-inner-gt8 : goal.returns-then-outer-inner-gt8
returns-then-outer-inner-gt8 c =
    let f = decoded c.args.file.now.bytes.now in
    let o = read_ordered _ c.args.file.now.known.read in
    let y = c.filter-found.ensures (λ e. eqb (kind_at f e) c.args.k) (λ e r h. search (rules, h)) in
    let z = c.filter-outer.ensures (λ e. not (eqb (kind_at f e) c.args.k)) (λ e r h. search (rules, h)) in
    many_within f o _ _ _ _ _ c.in_ok-all.ensures.0 y _ c.entries.ensures (omega (arith, c.in-len1.len_at_least, c.in-len1.len_below)) _ (node_first _ _ _ _ c.node_at-x.ensures) _ _ z
    c.in_ok-inner.ensures.0 c.if-outer-inner-gt8.true

pub returns : goal.returns
returns c =
    let f = decoded c.args.file.now.bytes.now in
    let o = read_ordered _ c.args.file.now.known.read in
    let y = c.filter-found.ensures (λ e. eqb (kind_at f e) c.args.k) (λ e r h. search (rules, h)) in
    let z = c.filter-outer.ensures (λ e. not (eqb (kind_at f e) c.args.k)) (λ e r h. search (rules, h)) in
    with_bracket f o _ _ _ _ _ c.in_ok-all.ensures.0 y _ c.entries.ensures (omega (arith, c.in-len1.len_at_least, c.in-len1.len_below)) _ (node_first _ _ _ _ c.node_at-x.ensures) _ _ z
    c.in_ok-inner.ensures.0 _ refl refl c.in_ok-right.ensures.0 (node_second _ _ _ _ c.node_at-x.ensures)
