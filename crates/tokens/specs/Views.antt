-- What the types of the code stand for.
use Rattle.tokens.specs.Parts.{PartTexts}
use Rattle.tokens.specs.Claimed.{Granted}
use Rattle.tokens.specs.declared.parts.Parts.{Parts}
use Rattle.tokens.specs.declared.claims.Claims.{Claims}

abbrev pub part_texts : Parts → PartTexts
part_texts p = record { head = p.head.now; claims = p.claims.now; signature = p.signature.now }

abbrev pub granted_by : Claims → Granted
granted_by c = record {
  subject = c.subject;
  topics = c.topics;
  talks = c.talks;
  begins = c.begins;
  ends = c.ends;
}
