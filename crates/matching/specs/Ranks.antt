-- The ranks that the rules of the questions give.
use Rattle.std.specs.Prelude.{ℕ, ◌-◌, ◌^◌}
use Rattle.analysis.specs.Ranks.{table_rank, deadline_rank}
use Rattle.matching.specs.declared.rules.Rule.{Rule}
use Rattle.matching.specs.declared.rules.Rule.TheVariants.{Table, Period, Deadline, LaterFirst}

-- the rank by place, period, deadline and release
abbrev pub rule_rank : Rule → ℕ → ℕ → ℕ → ℕ → ℕ
rule_rank (Table table) place period deadline release = table_rank table.ranks place
rule_rank Period place period deadline release = period
rule_rank Deadline place period deadline release = deadline_rank deadline release
rule_rank LaterFirst place period deadline release = 2 ^ 64 - 1 - release
