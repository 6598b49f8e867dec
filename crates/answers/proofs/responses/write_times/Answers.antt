use Rattle.std.proofs.Common.{◌≡◌, ℕ, [], ◌++◌, length, vec_items, codes, decimal, ap, ◌∙◌}
use Rattle.std.proofs.lemmas.Iterator.{YieldsList-from_slice, YieldsList-from_take}
use Rattle.std.proofs.lemmas.Iterator.Consumers.{YieldsList-at, YieldsList-from_enumerate, YieldsList-turn, YieldsList-end}
use Rattle.analysis.specs.Cells.{cells}
use Rattle.texts.specs.Texts.{unless_nought}
use Rattle.answers.specs.Responses.{time_text}
use Rattle.texts.proofs.Joined.{start_in_turn}
use Rattle.answers.proofs.Timed.{more_read, all_read}
use Rattle.answers.proofs.responses.write_times.Goals as goal

pub loop-time-init : goal.loop-time-init
loop-time-init g c = start_in_turn (λ time. time_text g.W.Printable.size g.W.Printable.text time (cells g.W.Weight.ops c.args.sheet.now time)) (vec_items c.args.out.now)

pub loop-time-preserved : goal.loop-time-preserved
loop-time-preserved g c =
    let sheet = c.args.sheet.now in
    let road = YieldsList-at c.into_iter-time-iterator.ensures.into_iter_gives (YieldsList-from_enumerate (YieldsList-at c.enumerate-time-items.ensures.source (YieldsList-from_take 256 (YieldsList-from_slice sheet cc) c.take.ensures.count)) c.enumerate-time-items.ensures.count) in
    let turn = YieldsList-turn road c.loop-time.yielded c.loop-time.time-iterator c.loop-time.yielded_by c.next.result c.next.new.self (c.in-Some.time, c.in-Some.cell) c.in-Some.is c.next.ensures.steps in
    more_read g.W.Weight.ops (time_text g.W.Printable.size g.W.Printable.text) sheet c.loop-time.yielded c.in-Some.time c.in-Some.cell (vec_items c.args.out.now) _ _ turn c.loop-time.invariant c.in_ok-write_time.ensures

pub returns : goal.returns
returns g c =
    let sheet = c.args.sheet.now in
    let line = time_text g.W.Printable.size g.W.Printable.text in
    let road = YieldsList-at c.into_iter-time-iterator.ensures.into_iter_gives (YieldsList-from_enumerate (YieldsList-at c.enumerate-time-items.ensures.source (YieldsList-from_take 256 (YieldsList-from_slice sheet cc) c.take.ensures.count)) c.enumerate-time-items.ensures.count) in
    let done = YieldsList-end road c.loop-time.yielded c.loop-time.time-iterator c.loop-time.yielded_by c.next.result c.next.new.self c.in-None.is c.next.ensures.steps in
    let blank : (k : ℕ) → line k g.W.Weight.ops.nought ≡ [] = λ k. ap (λ s. unless_nought s (decimal k ++ (codes ":" ++ (g.W.Printable.text g.W.Weight.ops.nought ++ codes " ")))) g.met.W.Printable.nought_sized in
    c.loop-time.invariant ∙ ap (λ s. vec_items c.args.out.now ++ s) (all_read g.W.Weight.ops line sheet (length c.loop-time.yielded) blank done.1)
