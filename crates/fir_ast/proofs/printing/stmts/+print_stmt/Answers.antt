use Rattle.std.proofs.Common.{sym, ap, ◌∙◌, ◌++◌, map}
use Rattle.std.specs.Prelude.{codes}
use Rattle.fir_ast.specs.Printed.{stmt_text, block_text, else_text, deeper, line_text, when_words, invalid_words, verif_words}
use Rattle.fir_ast.proofs.Lines.{line_written, blocks_written}
use Rattle.fir_ast.proofs.Rows.{invalid_text, when_text, skip_text, verif_text}
use Rattle.fir_ast.proofs.printing.stmts.+print_stmt.Goals as goal

pub put_stmt-returns-in_ok-put-in-Invalid : goal.put_stmt-returns-in_ok-put-in-Invalid
put_stmt-returns-in_ok-put-in-Invalid t c =
    let start = c.args.out.now.items in
    let indent = c.args.indent.now in
    let sink = c.in-Invalid.sink in
    line_written start indent (invalid_words sink) c.put.new.out.items c.put_invalid.new.out.items c.put-in-Invalid.new.out.items
    c.in_ok-put.ensures.ok c.in_ok-put_invalid-in-Invalid.ensures c.in_ok-put-in-Invalid.ensures.ok
    ∙ ap (λ text. start ++ text) (sym (invalid_text c.in-Invalid.line sink indent) ∙ ap (λ s. stmt_text s indent) (sym c.in-Invalid.is))

pub put_stmt-returns-in_ok-put_else-in-When : goal.put_stmt-returns-in_ok-put_else-in-When
put_stmt-returns-in_ok-put_else-in-When t c =
    let start = c.args.out.now.items in
    let indent = c.args.indent.now in
    let cond = c.in-When.cond in
    let taken = c.in-When.taken in
    let other = c.in-When.other in
    blocks_written start (line_text indent (when_words cond)) (block_text (map stmt_text taken) (deeper indent)) (else_text (map stmt_text other) indent)
    c.put-in-When.new.out.items c.put_block.new.out.items c.put_else.new.out.items
    (line_written start indent (when_words cond) c.put.new.out.items c.put_when.new.out.items c.put-in-When.new.out.items
    c.in_ok-put.ensures.ok c.in_ok-put_when-in-When.ensures c.in_ok-put-in-When.ensures.ok)
    (c.in_ok-put_block-in-When.ensures ∙ ap (λ ss. c.put-in-When.new.out.items ++ block_text (map stmt_text ss) (deeper indent)) c.as_slice.ensures)
    (c.in_ok-put_else-in-When.ensures ∙ ap (λ ss. c.put_block.new.out.items ++ else_text (map stmt_text ss) indent) c.as_slice-in-When.ensures)
    ∙ ap (λ text. start ++ text) (sym (when_text c.in-When.line cond taken other indent) ∙ ap (λ s. stmt_text s indent) (sym c.in-When.is))

pub put_stmt-returns-in_ok-put-in-Skip-2 : goal.put_stmt-returns-in_ok-put-in-Skip-2
put_stmt-returns-in_ok-put-in-Skip-2 t c =
    let start = c.args.out.now.items in
    let indent = c.args.indent.now in
    line_written start indent (codes "skip") c.put.new.out.items c.put-in-Skip.new.out.items c.put-in-Skip-2.new.out.items
    c.in_ok-put.ensures.ok c.in_ok-put-in-Skip.ensures.ok c.in_ok-put-in-Skip-2.ensures.ok
    ∙ ap (λ text. start ++ text) (sym (skip_text c.in-Skip.line indent) ∙ ap (λ s. stmt_text s indent) (sym c.in-Skip.is))

pub put_stmt-returns-in_ok-put-in-Verif : goal.put_stmt-returns-in_ok-put-in-Verif
put_stmt-returns-in_ok-put-in-Verif t c =
    let start = c.args.out.now.items in
    let indent = c.args.indent.now in
    let v = c.in-Verif in
    line_written start indent (verif_words v.kind v.args v.code v.text v.label) c.put.new.out.items c.put_verif.new.out.items c.put-in-Verif.new.out.items
    c.in_ok-put.ensures.ok c.in_ok-put_verif-in-Verif.ensures c.in_ok-put-in-Verif.ensures.ok
    ∙ ap (λ text. start ++ text) (sym (verif_text v.line v.kind v.args v.code v.text v.label indent) ∙ ap (λ s. stmt_text s indent) (sym v.is))
