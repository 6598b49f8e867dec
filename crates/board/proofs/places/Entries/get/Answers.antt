use Rattle.std.proofs.Common.{◌<◌, length, None, sym, arith}
use Rattle.std.proofs.lemmas.List.{get_or-map, get_or_past}
use Rattle.board.specs.Places.{place_of, places}
use Rattle.board.proofs.Records.{entries_past}
use Rattle.board.proofs.places.Entries.get.Goals as goal

pub returns-then-place-gt15 : goal.returns-then-place-gt15
returns-then-place-gt15 c =
    let e = c.args.self.now in
    sym (get_or_past (places e) c.args.place None (entries_past e c.args.place c.if-place-gt15.true))

pub returns : goal.returns
returns c =
    let lt : c.args.place < length c.args.self.now.at = omega (arith, c.args.self.now.sixteen) in
    sym (get_or-map place_of c.args.self.now.at c.args.place c.index-self-place.result None lt)
