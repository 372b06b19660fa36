-- A port's answers as contracts see them.
use Rattle.std.specs.Prelude.{Result, Ok, Err}
use Rattle.tracker_shard.specs.declared.fault.ShardFault.{ShardFault}
use Rattle.channel_rules.specs.declared.refusal.Refusal.{Refusal}
use Rattle.channel_rules.specs.declared.refusal.Refusal.TheVariants.{OverRation, NotGranted, Table}

-- an answer, wherever it lies in memory
abbrev pub seen_by : {A B : Type 0} → (A → B) → Result A Refusal → Result B Refusal
seen_by view (Ok x) = Ok (view x)
seen_by view (Err e) = Err e

-- what a port answers where its table answers so
abbrev pub in_table : {A : Type 0} → Result A ShardFault → Result A Refusal
in_table (Ok x) = Ok x
in_table (Err e) = Err (Table e)

-- The answer is the table's, and this holds of it.
abbrev pub FromTable : {A : Type 0} → (Result A ShardFault → Type 0) → Result A Refusal → Type 0
FromTable Is (Ok x) = Is (Ok x)
FromTable Is (Err (Table e)) = Is (Err e)
FromTable Is (Err OverRation) = ⊥
FromTable Is (Err NotGranted) = ⊥
