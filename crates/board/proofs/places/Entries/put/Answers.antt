use Rattle.std.proofs.Common.{Some, sym}
use Rattle.std.proofs.lemmas.List.{map-set}
use Rattle.board.specs.Places.{entry_of, place_of, places}
use Rattle.board.proofs.Records.{entries_past, set_past}
use Rattle.board.proofs.places.Entries.put.Goals as goal

pub returns : goal.returns
returns c = map-set place_of c.args.self.now.at c.args.place (Some c.args.task)

pub returns-then-place-gt15 : goal.returns-then-place-gt15
returns-then-place-gt15 c =
    let e = c.args.self.now in
    sym (set_past (places e) c.args.place (Some (entry_of c.args.task)) (entries_past e c.args.place c.if-place-gt15.true))
