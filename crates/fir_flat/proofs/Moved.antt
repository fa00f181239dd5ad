-- One statement counted, in front of any rest.
use Rattle.std.proofs.Common.{◌≡◌, ◌+◌, ◌∙◌, sym, ap, ℕ, Option, List, ◌++◌, length, take, subst, arith, append_assoc}
use Rattle.std.proofs.Math.Seq.{take-length}
use Rattle.fir_ast.specs.declared.tree.Expr.{Expr}
use Rattle.fir_ast.specs.declared.tree.VerifKind.{VerifKind}
use Rattle.fir_ast.specs.declared.tree.Module.{Module}
use Rattle.fir_ast.specs.declared.tree.Stmt.{Stmt}
use Rattle.fir_ast.specs.declared.tree.Stmt.TheVariants as stmt
use Rattle.fir_ast.specs.declared.tree.Stmt.TheVariants.{rolls-Verif}
use Rattle.fir_ast.specs.declared.tree.Stmt.TheFolds.{fold-roll-Stmt}
use Rattle.fir_ast.specs.declared.tree.Stmt.TheOpen.{Verif}
use Rattle.fir_check.proofs.Unrolled.{stmt-Node, stmt-Inst, stmt-Connect, stmt-Invalid, stmt-When, stmt-Skip}
use Rattle.fir_flat.specs.declared.kinds.Known.{Known}
use Rattle.fir_flat.specs.declared.own.Tally.{Tally}
use Rattle.fir_flat.specs.Bodies.{Body, node, inst, connect, invalid, when, level_body, statement, body_of}
use Rattle.fir_flat.specs.Values.{Bound}
use Rattle.fir_flat.specs.Modules.{targets}
use Rattle.fir_flat.specs.Measures.{measure, body_weight}
use Rattle.fir_flat.specs.Counts.{cut}
use Rattle.fir_flat.specs.Kinds.{seen}
use Rattle.fir_flat.specs.Tallies.{declared_in, Moves, Tallies}

pub body-Node : (l : ℕ) (n : List ℕ) (e : Expr) (rest : Body) → statement (stmt.Node l n e) rest ≡ node l n e rest
body-Node l n e rest = stmt-Node Body Body level_body l n e rest

pub body-Inst : (l : ℕ) (n m : List ℕ) (rest : Body) → statement (stmt.Inst l n m) rest ≡ inst l n m rest
body-Inst l n m rest = stmt-Inst Body Body level_body l n m rest

pub body-Connect : (l : ℕ) (s e : Expr) (rest : Body) → statement (stmt.Connect l s e) rest ≡ connect l s e rest
body-Connect l s e rest = stmt-Connect Body Body level_body l s e rest

pub body-Invalid : (l : ℕ) (s : Expr) (rest : Body) → statement (stmt.Invalid l s) rest ≡ invalid l s rest
body-Invalid l s rest = stmt-Invalid Body Body level_body l s rest

pub body-When : (l : ℕ) (c : Expr) (a b : List Stmt) (rest : Body) → statement (stmt.When l c a b) rest ≡ when l c (body_of a) (body_of b) rest
body-When l c a b rest = stmt-When Body Body level_body l c a b rest

pub body-Skip : (l : ℕ) (rest : Body) → statement (stmt.Skip l) rest ≡ rest
body-Skip l rest = stmt-Skip Body Body level_body l rest

pub body-Verif : (l : ℕ) (kind : VerifKind) (args : List Expr) (code : ℕ) (text : List ℕ) (label : Option (List ℕ)) (rest : Body)
    → statement (stmt.Verif l kind args code text label) rest ≡ rest
body-Verif l kind args code text label rest =
    ap (λ s. statement s rest) (sym (rolls-Verif l kind args code text label))
    ∙ ap (λ (h : Body → Body). h rest) (fold-roll-Stmt (Body → Body) level_body (Verif l kind args code text label))

pub whole : (known : List Known) → take (length known) known ≡ known
whole known = take-length known

-- a statement that is `g` in front of any rest, counts S signals, W parts and these targets, and knows `next` behind it
pub moves_by : (modules : List Module) (s : Stmt) (g : Body → Body) (known after : List Known) (next : List Bound) (t u : Tally) (S W a b : ℕ) (new : List ℕ)
    → ((rest : Body) → statement s rest ≡ g rest)
    → ((rest : Body) → declared_in modules (seen known) (g rest) ≡ S + declared_in modules next rest)
    → ((rest : Body) → body_weight modules (seen known) (g rest) ≡ W + body_weight modules next rest)
    → ((rest : Body) → targets modules (g rest) ≡ new ++ targets modules rest)
    → seen after ≡ next → u.signals ≡ cut (t.signals + a) → a ≡ cut S → u.parts ≡ cut (t.parts + b) → b ≡ cut W
    → u.instances.items ≡ t.instances.items ++ new → take (length known) after ≡ known
    → Moves modules (statement s) known after t u
moves_by modules s g known after next t u S W a b new is sig par tar n us sa up sb ui kept = record {
  signals = λ rest.
      let x : declared_in modules (seen known) (statement s rest) ≡ S + declared_in modules next rest
      = ap (declared_in modules (seen known)) (is rest) ∙ sig rest in
      let y : declared_in modules (seen after) rest ≡ declared_in modules next rest = ap (λ k. declared_in modules k rest) n in
      omega (arith, x, y, us, sa);
  parts = λ rest.
      let x : body_weight modules (seen known) (statement s rest) ≡ W + body_weight modules next rest
      = ap (body_weight modules (seen known)) (is rest) ∙ par rest in
      let y : body_weight modules (seen after) rest ≡ body_weight modules next rest = ap (λ k. body_weight modules k rest) n in
      omega (arith, x, y, up, sb);
  targets = λ rest.
      ap (λ z. t.instances.items ++ targets modules z) (is rest) ∙ ap (λ z. t.instances.items ++ z) (tar rest)
      ∙ sym (append_assoc t.instances.items new (targets modules rest)) ∙ ap (λ z. z ++ targets modules rest) (sym ui);
  kept = kept;
}

-- a statement that gives nothing
pub moves_nothing : (modules : List Module) (s : Stmt) (known : List Known) (t : Tally) → ((rest : Body) → statement s rest ≡ rest)
    → Moves modules (statement s) known known t t
moves_nothing modules s known t is = record {
  signals = λ rest. ap (λ z. cut (t.signals + declared_in modules (seen known) z)) (is rest);
  parts = λ rest. ap (λ z. cut (t.parts + body_weight modules (seen known) z)) (is rest);
  targets = λ rest. ap (λ z. t.instances.items ++ targets modules z) (is rest);
  kept = whole known;
}

pub moves_when : (modules : List Module) (s : Stmt) (l : ℕ) (e : Expr) (a b : List Stmt) (known mid after : List Known) (t v w u : Tally) (n : ℕ)
    → s ≡ stmt.When l e a b → v.signals ≡ cut (t.signals + 0) → v.parts ≡ cut (t.parts + n) → n ≡ cut (1 + (measure (seen known) e).nodes)
    → v.instances.items ≡ t.instances.items → Tallies modules (body_of a) known v w → mid ≡ known → Tallies modules (body_of b) mid w u → after ≡ mid
    → Moves modules (statement s) known after t u
moves_when modules s l e a b known mid after t v w u n is vs vp np vi first m second f =
    let g : after ≡ known = f ∙ m in
    let same : Tallies modules (body_of b) known w u = subst (λ k. Tallies modules (body_of b) k w u) m second in
    let eq : (rest : Body) → statement s rest ≡ when l e (body_of a) (body_of b) rest = λ rest. ap (λ x. statement x rest) is ∙ body-When l e a b rest in
    record {
      signals = λ rest.
          let x : declared_in modules (seen known) (statement s rest)
          ≡ declared_in modules (seen known) (body_of a) + (declared_in modules (seen known) (body_of b) + declared_in modules (seen known) rest)
          = ap (declared_in modules (seen known)) (eq rest) in
          let y : declared_in modules (seen after) rest ≡ declared_in modules (seen known) rest = ap (λ k. declared_in modules (seen k) rest) g in
          omega (arith, x, y, vs, first.signals, same.signals);
      parts = λ rest.
          let x : body_weight modules (seen known) (statement s rest)
          ≡ 1 + ((measure (seen known) e).nodes
          + (body_weight modules (seen known) (body_of a) + (body_weight modules (seen known) (body_of b) + body_weight modules (seen known) rest)))
          = ap (body_weight modules (seen known)) (eq rest) in
          let y : body_weight modules (seen after) rest ≡ body_weight modules (seen known) rest = ap (λ k. body_weight modules (seen k) rest) g in
          omega (arith, x, y, vp, np, first.parts, same.parts);
      targets = λ rest.
          ap (λ z. t.instances.items ++ targets modules z) (eq rest)
          ∙ sym (append_assoc t.instances.items (targets modules (body_of a)) (targets modules (body_of b) ++ targets modules rest))
          ∙ ap (λ z. z ++ (targets modules (body_of b) ++ targets modules rest)) (ap (λ z. z ++ targets modules (body_of a)) (sym vi) ∙ first.targets)
          ∙ sym (append_assoc w.instances.items (targets modules (body_of b)) (targets modules rest))
          ∙ ap (λ z. z ++ targets modules rest) same.targets;
      kept = ap (take (length known)) g ∙ whole known;
    }
