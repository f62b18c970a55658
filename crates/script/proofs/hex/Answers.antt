-- The name is written, and behind it the padded digits.
use Rattle.std.proofs.Common.{◌-◌, ◌^◌, ◌∙◌, false, [], ap, Some}
use Rattle.std.specs.Option.{option_map}
use Rattle.std.specs.Fmt.{styled_digits_output, padded_integral, format_spec}
use Rattle.script.proofs.Padded.{padded_written}
use Rattle.script.proofs.Joined.{behind}
use Rattle.script.proofs.hex.Goals as goal

pub returns : goal.returns
returns g c =
    let spec = format_spec 32 0 4 c.args.width (2 ^ 64 - 1) in
    let digits = ap (option_map (padded_integral spec false [])) c.in_radix.ensures
    ∙ ap Some (padded_written c.args.width c.args.n) in
    behind (styled_digits_output c.in_radix.result) c.laid_out.result spec c.write.result _ _ _ _ _
    c.laid_out.ensures digits
    c.in_ok-write_all.ensures.bytes c.write.ensures.bytes
