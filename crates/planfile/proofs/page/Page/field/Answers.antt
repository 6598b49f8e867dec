use Rattle.std.proofs.Common.{[], ◌∷◌, ◌++◌, decimal, ap, ◌∙◌, arith}
use Rattle.std.proofs.lemmas.List.{append_assoc}
use Rattle.planfile.specs.Pages.{text}
use Rattle.planfile.proofs.Written.{decimal_short, after}
use Rattle.planfile.proofs.page.Page.field.Goals as goal

pub number-requires : goal.number-requires
number-requires c = let d = decimal_short c.args.n (omega arith) in omega (arith, c.requires)

pub push-requires : goal.push-requires
push-requires c =
    let d = decimal_short c.args.n (omega arith) in
    let l = after _ (text c.args.self.now) (decimal c.args.n) 480 20 c.number.ensures c.requires d in
    omega arith

pub returns : goal.returns
returns c = c.push.ensures ∙ (ap (λ s. s ++ c.args.end ∷ []) c.number.ensures ∙ append_assoc (text c.args.self.now) (decimal c.args.n) (c.args.end ∷ []))
