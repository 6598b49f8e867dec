use Rattle.std.proofs.Common.{◌≡◌, true, false, sym, ap, ◌∙◌, subst, arith}
use Rattle.std.proofs.lemmas.Bool.Decides.{nat_tests}
use Rattle.planfile.specs.declared.contents.Entry.{Entry}
use Rattle.planfile.specs.Faults.{told, file_fault}
use Rattle.planfile.specs.Contents.{entry, placed, sized, entry_number}
use Rattle.planfile.proofs.Listed.{number_unplaced, number_unsized, number_right}
use Rattle.planfile.proofs.contents.Contents.next_entry.Goals as goal

pub returns-then-not-admits : goal.returns-then-not-admits
returns-then-not-admits c =
    let f = c.args.file.now in
    let before = c.args.self.now.entries.items in
    let P : Entry → Type 0 = λ e. placed f c.args.self.now.end before e ≡ false in
    let p : placed f c.args.self.now.end before (entry f c.args.at) ≡ false = subst P c.in_ok-entry.ensures.1 (sym c.if-not-admits.ensures) in
    let n = number_unplaced f c.args.self.now.end before (entry f c.args.at) p in
    (ap told c.file-missing.ensures ∙ ap (λ k. file_fault k c.args.at) (sym n), omega arith)

pub returns-then-entry-lt6 : goal.returns-then-entry-lt6
returns-then-entry-lt6 c =
    let f = c.args.file.now in
    let before = c.args.self.now.entries.items in
    let e = c.in_ok-entry.entry in
    let is : e ≡ entry f c.args.at = c.in_ok-entry.ensures.1 in
    let P : Entry → Type 0 = λ x. entry_number f c.args.self.now.end before x ≡ 22 in
    let p : placed f c.args.self.now.end before e ≡ true = sym c.if-not-admits.ensures in
    let q : sized f e ≡ false = grind (arith, nat_tests) in
    let n = subst P is (number_unsized f c.args.self.now.end before e p q) in
    (ap told c.file-missing-2.ensures ∙ ap (λ k. file_fault k c.args.at) (sym n), omega arith)

pub returns-then-entry-pairs : goal.returns-then-entry-pairs
returns-then-entry-pairs c =
    let f = c.args.file.now in
    let before = c.args.self.now.entries.items in
    let e = c.in_ok-entry.entry in
    let is : e ≡ entry f c.args.at = c.in_ok-entry.ensures.1 in
    let P : Entry → Type 0 = λ x. entry_number f c.args.self.now.end before x ≡ 22 in
    let p : placed f c.args.self.now.end before e ≡ true = sym c.if-not-admits.ensures in
    let k = c.in_ok-pairs.ensures.1 in
    let q : sized f e ≡ false = grind (arith, nat_tests) in
    let n = subst P is (number_unsized f c.args.self.now.end before e p q) in
    (ap told c.file-missing-2.ensures ∙ ap (λ k. file_fault k c.args.at) (sym n), omega arith)

pub returns : goal.returns
returns c =
    let f = c.args.file.now in
    let before = c.args.self.now.entries.items in
    let e = c.in_ok-entry.entry in
    let is : e ≡ entry f c.args.at = c.in_ok-entry.ensures.1 in
    let P : Entry → Type 0 = λ x. entry_number f c.args.self.now.end before x ≡ 0 in
    let p : placed f c.args.self.now.end before e ≡ true = sym c.if-not-admits.ensures in
    let k = c.in_ok-pairs.ensures.1 in
    let q : sized f e ≡ true = grind (arith, nat_tests) in
    (is, subst P is (number_right f c.args.self.now.end before e p q))
