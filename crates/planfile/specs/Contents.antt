-- The contents of a plan file: its entries, and the first fault in them.
use Rattle.std.specs.Prelude.{ℕ, ◌+◌, ◌*◌, Bool, cond, not, ◌&&◌, List, [], ◌∷◌, ◌++◌, map, length, Some, None, Option, ◌==◌, nat_le}
use Rattle.std.specs.List.{list_any, range_with_len}
use Rattle.planfile.specs.declared.contents.Entry.{Entry}
use Rattle.planfile.specs.Faults.{Told, file_fault}
use Rattle.planfile.specs.Fields.{byte, word}

-- a place, then where the body starts and how many bytes it has
abbrev pub entry : List ℕ → ℕ → Entry
entry f at = record { place = byte f at; start = word f (at + 1); size = word f (at + 3) }

-- what an array of entries is filled with
abbrev pub blank : Entry
blank = record { place = 0; start = 0; size = 0 }

-- at most 16 tasks, and a file that is long enough for their entries
abbrev pub contents_fit : List ℕ → Bool
contents_fit f = nat_le (byte f 0) 16 && nat_le (1 + 5 * byte f 0) (length f)

-- entry k stands at 1 + 5 k
unfoldable pub contents : List ℕ → List Entry
contents f = map (λ k. entry f (1 + 5 * k)) (range_with_len 0 (byte f 0))

-- one of the entries has the place
abbrev pub used : List Entry → ℕ → Bool
used es place = list_any (λ e. e.place == place) es

-- the first byte after a body
abbrev pub body_end : Entry → ℕ
body_end e = e.start + e.size

-- a place up to 15 that no entry before it uses, and a body that starts where the body before it ended and lies in the file
abbrev pub placed : List ℕ → ℕ → List Entry → Entry → Bool
placed f start before e = nat_le e.place 15 && (not (used before e.place) && (e.start == start && nat_le (body_end e) (length f)))

-- the number of pairs that a body names
abbrev pub pair_count : List ℕ → Entry → ℕ
pair_count f e = byte f (e.start + 5)

-- six bytes and three for each pair
abbrev pub sized : List ℕ → Entry → Bool
sized f e = nat_le 6 e.size && e.size == 6 + 3 * pair_count f e

-- the number of what is wrong with an entry: its place or where its body lies, then its body's length; 0 where it is right
unfoldable pub entry_number : List ℕ → ℕ → List Entry → Entry → ℕ
entry_number f start before e = cond (placed f start before e) (cond (sized f e) 0 22) 21

-- the first fault in the entries from at on, where the body before them ended at start
abbrev pub entries_fault : List ℕ → ℕ → ℕ → List Entry → List Entry → Option Told
entries_fault f at start before [] = None
entries_fault f at start before (e ∷ es) =
    cond (entry_number f start before e == 0)
    (entries_fault f (at + 5) (body_end e) (before ++ e ∷ []) es)
    (Some (file_fault (entry_number f start before e) at))

-- the contents end where the first body has to start
abbrev pub contents_end : List ℕ → ℕ
contents_end f = 1 + 5 * byte f 0

-- the first fault in the contents: they do not fit, or an entry is wrong
unfoldable pub contents_fault : List ℕ → Option Told
contents_fault f = cond (contents_fit f) (entries_fault f 1 (contents_end f) [] (contents f)) (Some (file_fault 20 0))

-- where the last of the bodies ends
abbrev pub last_end : ℕ → List Entry → ℕ
last_end start [] = start
last_end start (e ∷ es) = last_end (body_end e) es
