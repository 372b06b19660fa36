-- What is said of what is odd about a link.
use Rattle.std.specs.Prelude.{ℕ, List, [], ◌++◌, Option, Some, None, codes, decimal}
use Rattle.node_links.specs.declared.outcome.Untold.{Untold as UntoldValue}
use Rattle.node_links.specs.declared.outcome.UntoldSize.{UntoldSize}
use Rattle.link_rules.specs.declared.warning.LinkWarning.{LinkWarning}
use Rattle.link_rules.specs.declared.warning.LinkWarning.TheVariants.{Untold, NotDialled, NotDialling, TwoNodes, CountsBelow, OwnCounts}

-- what is said of a shard whose rows and other counts are too many, or as many as these are more bytes than a line has
abbrev pub untold_words : ℕ → Option UntoldSize → List ℕ
untold_words k None = codes "it stays without shard " ++ (decimal k
    ++ codes ", whose rows and other counts are more than a line holds, 65536 in all or 4194304 bytes: more --shards or fewer rows help")
untold_words k (Some s) = codes "it stays without shard " ++ (decimal k ++ (codes ", whose " ++ (decimal s.rows
    ++ (codes " rows and " ++ (decimal s.beside
    ++ codes " other counts are more than a line holds, 4194304 bytes: more --shards or fewer rows help")))))

abbrev pub untold_text : UntoldValue → List ℕ
untold_text u = untold_words u.shard u.size

abbrev pub warning_words : LinkWarning → List ℕ
warning_words (Untold u) = []
warning_words NotDialled = codes "no --peer of this node has its name, so it isn't told of rows here"
warning_words NotDialling = codes "it doesn't dial this node, so rows there aren't told here: does it lack a --peer?"
warning_words TwoNodes = codes "a node of the same name speaks over another link: are there two?"
warning_words CountsBelow = codes "it counts below what is known of it: was it started again with the same --incarnation?"
warning_words OwnCounts = codes "it tells of what this node never did: was this one started again with the same --incarnation, or are there two? Start it with a higher --incarnation"

abbrev pub what_is_odd : LinkWarning → List ℕ
what_is_odd (Untold u) = untold_text u
what_is_odd warning = warning_words warning

-- the line of what is odd about a link
abbrev pub warning_text : List ℕ → LinkWarning → List ℕ
warning_text place warning = codes "link " ++ (place ++ (codes ": " ++ (what_is_odd warning ++ codes "\n")))
