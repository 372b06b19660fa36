use Rattle.std.proofs.Common.{◌≡◌, [], Ok, Err, sym, ap, ◌∙◌, subst, arith}
use Rattle.serde_json.specs.View.{view}
use Rattle.json_parts.specs.Outline.{shallow}
use Rattle.json_parts.specs.Places.{At}
use Rattle.json_parts.proofs.Converted.{stands}
use Rattle.link_lines.specs.declared.fault.LinkFault.TheVariants.{OutOfMemory}
use Rattle.link_lines.specs.Results.{Gives}
use Rattle.link_lines.proofs.reading.outline_of.Goals as goal

pub returns-in_err-shallow : goal.returns-in_err-shallow
returns-in_err-shallow c = λ d read.
    let s = stands c.args.text.now d read in
    let memory = c.in_err-shallow.ensures.read s.0 [] (subst (λ l. At l s.0 []) (sym c.in-Ok.ensures.ok) s.1) in
    let none : c.from_residual.result ≡ Err OutOfMemory = grind (arith, memory) in
    subst (λ r. Gives view r (Ok (shallow 9 d))) (sym none) tt

pub returns : goal.returns
returns c = λ d read.
    let s = stands c.args.text.now d read in
    let r = c.in_ok-shallow.ensures.read s.0 [] (subst (λ l. At l s.0 []) (sym c.in-Ok.ensures.ok) s.1) in
    ap Ok (sym (r.0 ∙ ap (shallow 9) s.2))
