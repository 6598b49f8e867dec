use Rattle.std.proofs.Common.{None, sym}
use Rattle.std.proofs.lemmas.List.{map-set}
use Rattle.board.specs.Places.{place_of, places}
use Rattle.board.proofs.Records.{entries_past, set_past}
use Rattle.board.proofs.places.Entries.clear.Goals as goal

pub returns : goal.returns
returns c = map-set place_of c.args.self.now.at c.args.place None

pub returns-then-place-gt15 : goal.returns-then-place-gt15
returns-then-place-gt15 c =
    let e = c.args.self.now in
    sym (set_past (places e) c.args.place None (entries_past e c.args.place c.if-place-gt15.true))
