use Rattle.number_texts.proofs.Colons.{colon_past}
use Rattle.number_texts.proofs.pieces.is_before_colon.Goals as goal

pub returns-else-at-bytes : goal.returns-else-at-bytes
returns-else-at-bytes c =
    colon_past c.as_bytes-bytes.result.now c.args.text.now c.space_len-at.result c.as_bytes-bytes.ensures.value c.space_len-at.ensures c.if-at-bytes.false
