-- The ranks that the rule of a line gives.
use Rattle.std.specs.Prelude.{ℕ}
use Rattle.analysis.specs.Ranks.{table_rank, deadline_rank}
use Rattle.lines.specs.declared.rules.Rule.{Rule}
use Rattle.lines.specs.declared.rules.Rule.TheVariants.{Period, Deadline, Table}

-- the rank by place, period, deadline and release
abbrev pub rule_rank : Rule → ℕ → ℕ → ℕ → ℕ → ℕ
rule_rank Period place period deadline release = period
rule_rank Deadline place period deadline release = deadline_rank deadline release
rule_rank (Table t) place period deadline release = table_rank t.ranks place
