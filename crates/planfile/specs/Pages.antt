-- The text on a page.
use Rattle.std.specs.Prelude.{ℕ, ◌-◌, List, ◌++◌, length, replicate}
use Rattle.planfile.specs.declared.page.Page.{Page}

abbrev pub text : Page → List ℕ
text p = p.bytes.items

-- a text on a page of 512 bytes, the others nought
abbrev pub padded : List ℕ → List ℕ
padded t = t ++ replicate (512 - length t) 0
