use Rattle.std.proofs.Common.{◌≡◌, ◌++◌, codes, ap, ◌∙◌, arith}
use Rattle.planfile.specs.Faults.{told}
use Rattle.planfile.specs.Pages.{text}
use Rattle.planfile.specs.Reports.{line}
use Rattle.planfile.proofs.Lined.{line_short}
use Rattle.planfile.proofs.Written.{after}
use Rattle.planfile.proofs.reports.fault_page.Goals as goal

pub returns : goal.returns
returns c =
    let t = told c.args.fault in
    let a = c.layer.result in
    let b = c.number.result in
    let n = c.offset.result in
    let start : text c.write.new.self ≡ codes "fault " = c.write.ensures ∙ ap (λ s. s ++ codes "fault ") c.new-page.ensures in
    let here : text c.line.new.self ≡ codes "fault " ++ line a b n = c.line.ensures ∙ ap (λ s. s ++ line a b n) start in
    let l : line a b n ≡ line t.layer t.number t.offset =
    ap (λ x. line x b n) c.layer.ensures ∙ (ap (λ x. line t.layer x n) c.number.ensures ∙ ap (λ x. line t.layer t.number x) c.offset.ensures) in
    let m = after (text c.line.new.self) (codes "fault ") (line a b n) 6 63 here (omega arith) (line_short a b n (omega arith) (omega arith) (omega arith)) in
    record { writes = here ∙ ap (λ s. codes "fault " ++ s) l; short = omega arith }
