use Rattle.std.proofs.Common.{◌<◌, ◌≤◌, ◌≡◌, length, Some, refl, ap, ◌∙◌, subst}
use Rattle.std.proofs.lemmas.Result.{err_from_is_err_and}
use Rattle.planfile.specs.Faults.{told, file_fault}
use Rattle.planfile.specs.Bodies.{within}
use Rattle.planfile.proofs.Entering.{contents_within, contents_entered, loaded_contents, loaded_bodies, loaded_trailing, loaded_whole}
use Rattle.planfile.proofs.loader.load.Goals as goal

pub returns-in_err-contents : goal.returns-in_err-contents
returns-in_err-contents c =
    let p = err_from_is_err_and c.from_residual.result c.from_residual.ensures.1 in
    let l = loaded_contents c.args.file.now _ c.in_err-contents.ensures in
    record { answers = rw (p.1, p.2, l) refl; leaves = rw l refl }

pub invariant_of-bodies : goal.invariant_of-bodies
invariant_of-bodies c =
    let f = c.args.file.now in
    let k = c.in_ok-contents.ensures in
    record { fits = ap (within f) (c.as_slice.ensures.is ∙ k.1) ∙ contents_within f k.0 }

pub returns-in_err-enter : goal.returns-in_err-enter
returns-in_err-enter c =
    let f = c.args.file.now in
    let k = c.in_ok-contents.ensures in
    let p = err_from_is_err_and c.from_residual-in_err-enter.result c.from_residual-in_err-enter.ensures.1 in
    let b = contents_entered f _ _ _ _ c.in_err-enter.ensures c.as_slice.ensures.is k.1 c.new-next.ensures in
    let l = loaded_bodies f _ k.0 b in
    record { answers = rw (p.1, p.2, l) refl; leaves = rw l refl }

pub returns-then-contents-file : goal.returns-then-contents-file
returns-then-contents-file c =
    let f = c.args.file.now in
    let k = c.in_ok-contents.ensures in
    let b = contents_entered f _ _ _ _ c.in_ok-enter.ensures c.as_slice.ensures.is k.1 c.new-next.ensures in
    let l = loaded_trailing f _ k.0 b (subst (λ x. x < length f) k.2 c.if-contents-file.true) in
    let t : told c.file.result ≡ file_fault 23 _ = ap told c.file.ensures ∙ ap (file_fault 23) k.2 in
    record { answers = rw l (ap Some t); leaves = rw l refl }

pub returns : goal.returns
returns c =
    let f = c.args.file.now in
    let k = c.in_ok-contents.ensures in
    let b = contents_entered f _ _ _ _ c.in_ok-enter.ensures c.as_slice.ensures.is k.1 c.new-next.ensures in
    let l = loaded_whole f _ k.0 b (subst (λ x. length f ≤ x) k.2 c.if-contents-file.false) in
    record { answers = rw l refl; leaves = rw l refl }
