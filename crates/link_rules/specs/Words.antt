-- Who may be at the other end of a link, and what is said of a link.
use Rattle.std.specs.Prelude.{ℕ, List, length, ◌==◌, ◌||◌, ◌++◌, Bool, true, false, Option, Some, None, Result, Ok, Err, cond, codes, decimal}
use Rattle.std.specs.List.{list_any}
use Rattle.presence_base.specs.Order.{same_text, same_replica}
use Rattle.presence_base.specs.declared.dots.Replica.{Replica}
use Rattle.node_links.specs.declared.port.ActFault.TheVariants as acts
use Rattle.node_links.specs.declared.fault.DialFault.TheVariants as dials
use Rattle.link_lines.specs.declared.fault.LinkFault.{LinkFault}
use Rattle.link_lines.specs.declared.fault.LinkFault.TheVariants as faults
use Rattle.orswot_core.specs.declared.told.ToldFault.{ToldFault}
use Rattle.orswot_core.specs.declared.told.ToldFault.TheVariants as tolds
use Rattle.link_rules.specs.declared.end.LinkEnd.{LinkEnd}
use Rattle.link_rules.specs.declared.end.LinkEnd.TheVariants.{Fault, Closed, GivenUp, GoesOnLater, Reborn, OwnReplica, OwnName, OtherName, NotAPeer, OtherAddress, NoKey, NoNamedKey, Unshown, KeyWanted, OtherHello, NoNonce, Replaced, NotReached, HostNotFound, NoFile, TooMany, Stopped}

-- another name than the one that is wanted is refused, where one is
abbrev pub met_name : Option (List ℕ) → List ℕ → Result (Unit {0}) LinkEnd
met_name None other = Ok tt
met_name (Some name) other = cond (same_text other name) (Ok tt) (Err OtherName)

-- the node itself is refused first, then its own name, then another than the one that is wanted
abbrev pub met : Replica → Option (List ℕ) → Replica → Result (Unit {0}) LinkEnd
met own wanted other = cond (same_replica other own) (Err OwnReplica)
    (cond (same_text other.name own.name) (Err OwnName) (met_name wanted other.name))

abbrev pub is_among : List (List ℕ) → List ℕ → Bool
is_among names name = list_any (λ one. same_text one name) names

-- where no node is named anybody may link to this one, and else who is named
abbrev pub is_welcome : List (List ℕ) → List ℕ → Bool
is_welcome names name = length names == 0 || is_among names name

-- the number of a refused told value
abbrev pub told_label : ToldFault → List ℕ
told_label tolds.TwoRanges = codes "N4 B1"
told_label tolds.BadRange = codes "N4 B2"
told_label tolds.LiveNotCovered = codes "N4 B3"
told_label tolds.LiveTwice = codes "N4 B4"
told_label tolds.TooMany = codes "N4 B5"
told_label tolds.RowLimits = codes "N4 B6"
told_label tolds.OutOfMemory = codes "N8"

-- what is said of a refused told value behind its number
abbrev pub told_words : ToldFault → List ℕ
told_words tolds.TwoRanges = codes "a told value has two ranges of one node, or in version 2 one out of order"
told_words tolds.BadRange = codes "a told value has a range that ends below its start"
told_words tolds.LiveNotCovered = codes "a told value has a row that none of its ranges and extras covers"
told_words tolds.LiveTwice = codes "a told value has a row twice"
told_words tolds.TooMany = codes "a told value has more than 65536 rows and extras, or in version 2 rows and ranges"
told_words tolds.RowLimits = codes "a told value has a row outside its limits, or of a topic of another shard"
told_words tolds.OutOfMemory = codes "out of memory"

-- the number of a refusal
abbrev pub fault_label : LinkFault → List ℕ
fault_label faults.LineTooLong = codes "N1"
fault_label faults.NotJson = codes "N2"
fault_label faults.BadLine = codes "N3"
fault_label (faults.BadTold fault) = told_label fault
fault_label faults.OtherShards = codes "N5"
fault_label faults.ReadFailed = codes "N6"
fault_label faults.WriteFailed = codes "N7"
fault_label faults.OutOfMemory = codes "N8"
fault_label faults.CutLine = codes "N9"

-- what is said of a refusal behind its number
abbrev pub fault_words : LinkFault → List ℕ
fault_words faults.LineTooLong = codes "a line is too long: 4194304 bytes are allowed"
fault_words faults.NotJson = codes "a line is not JSON"
fault_words faults.BadLine = codes "a line is none that is allowed here, or a member of it is outside its limits"
fault_words (faults.BadTold fault) = told_words fault
fault_words faults.OtherShards = codes "the other node has another number of shards"
fault_words faults.ReadFailed = codes "reading failed, or a line was late"
fault_words faults.WriteFailed = codes "writing failed"
fault_words faults.OutOfMemory = codes "out of memory"
fault_words faults.CutLine = codes "the end came within a line"

-- what is said of an end
abbrev pub end_words : LinkEnd → List ℕ
end_words (Fault (dials.Link fault)) = fault_words fault
end_words (Fault (dials.Act acts.ShardFull)) = codes "a shard takes nothing more in, though a checkpoint was tried"
end_words (Fault (dials.Act acts.OutOfMemory)) = codes "out of memory"
end_words Closed = codes "the other node closed it"
end_words GivenUp = codes "this incarnation is gone at the other node, and this node can't go on under the next: start it with a higher --incarnation"
end_words GoesOnLater = codes "this incarnation is gone at the other node, and this node goes on under a higher one a little later"
end_words Reborn = codes "this node goes on under a higher incarnation"
end_words OwnReplica = codes "the other node has this node's own name and incarnation: was it started twice, or does a --peer lead back here?"
end_words OwnName = codes "the other node has this node's own name"
end_words OtherName = codes "the other node has another name than --peer says"
end_words NotAPeer = codes "no --peer of this node has its name"
end_words OtherAddress = codes "no --link-from of this node has its address"
end_words NoKey = codes "the other node shows none of the keys of --link-keys"
end_words NoNamedKey = codes "the other node shows none of the keys of --link-keys under the name that --peer says"
end_words Unshown = codes "the other node closed it and showed no key: has it one of --link-keys?"
end_words KeyWanted = codes "the other node wants a key shown, and this one has no --link-keys"
end_words OtherHello = codes "the other node's hello names another one than showed a key"
end_words NoNonce = codes "the system gives no random bytes to show a key by"
end_words Replaced = codes "a newer link of that node came in"
end_words NotReached = codes "nobody answers there"
end_words HostNotFound = codes "no address is found for its host: the name isn't known, or the resolver doesn't answer"
end_words NoFile = codes "as many files are open as may be: raise with ulimit -n"
end_words TooMany = codes "there are 32 links that came in, and no more are taken"
end_words Stopped = codes "this node stops"

-- the reason of an end: of a link's fault its number too
abbrev pub reason : LinkEnd → List ℕ
reason (Fault (dials.Link fault)) = fault_label fault ++ (codes " " ++ fault_words fault)
reason end = end_words end

-- the line of a link that has come up
abbrev pub up_text : List ℕ → Replica → List ℕ
up_text place other = codes "link "
    ++ (place ++ (codes ": up, with " ++ (other.name ++ (codes "." ++ (decimal other.incarnation ++ codes "\n")))))

-- the line of a link that went
abbrev pub down_text : List ℕ → LinkEnd → List ℕ
down_text place end = codes "link " ++ (place ++ (codes ": down: " ++ (reason end ++ codes "\n")))

-- behind which faults a stream may still stand between two lines: one that was read whole, or want of memory
abbrev pub leaves_between : LinkFault → Bool
leaves_between faults.NotJson = true
leaves_between faults.BadLine = true
leaves_between (faults.BadTold fault) = true
leaves_between faults.OtherShards = true
leaves_between faults.OutOfMemory = true
leaves_between _ = false

-- behind which ends another line may still go out: a shard's trouble is none of the stream's
abbrev pub leaves_stream : LinkEnd → Bool
leaves_stream (Fault (dials.Act fault)) = true
leaves_stream (Fault (dials.Link fault)) = leaves_between fault
leaves_stream GivenUp = true
leaves_stream GoesOnLater = true
leaves_stream _ = false
