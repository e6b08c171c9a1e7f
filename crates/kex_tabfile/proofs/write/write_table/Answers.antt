use Rattle.std.proofs.Common.{◌++◌, length, map, refl, ap, ◌∙◌, arith}
use Rattle.std.proofs.lemmas.List.{length-map}
use Rattle.std.specs.Prelude.{codes}
use Rattle.kex_plan.specs.Plans.{machine_of}
use Rattle.kex_compile.proofs.FewStages.{few_machines}
use Rattle.kex_tabfile.specs.Lines.{name_line, size_line, head_text, end_line}
use Rattle.kex_tabfile.proofs.WrittenFiles.{file_joined}
use Rattle.kex_tabfile.proofs.write.write_table.Goals as goal

pub returns : goal.returns
returns c =
    let out = c.args.out.now.items in
    let text = c.args.text.now in
    let size = size_line (length text) in
    let st = c.in_ok-write_stages.ensures in
    let lines = st.0 in (
      head_text text ++ (lines ++ end_line),
      c.in_ok-extend_from_slice-3.ensures.items
          ∙ ap (λ z. z ++ end_line) (st.1
          ∙ ap (λ z. z ++ lines) (c.in_ok-push.ensures.items
          ∙ ap (λ z. z ++ codes "\n") (c.in_ok-extend_from_slice-2.ensures.items
          ∙ ap (λ z. z ++ text) (c.in_ok-push_size_line.ensures
          ∙ ap (λ z. z ++ size) c.in_ok-extend_from_slice.ensures.items))))
          ∙ file_joined out name_line size text (codes "\n") lines end_line,
      record { lines = lines; stages = st.2; whole = refl },
    )

pub write_stages-requires-clause-few : goal.write_stages-requires-clause-few
write_stages-requires-clause-few c =
    let stages = c.args.stages.now in
    let few = few_machines c.args.text.now (map machine_of stages) c.requires.machines in
    omega (arith, few, length-map stages machine_of)
