-- Each row keeps the rules where its driver, or its reset, keeps them.
use Rattle.std.proofs.Common.{◌≡◌, ℕ, List, [], ◌∷◌, ◌++◌, map, Bool, true, false, not, ◌||◌, ◌&&◌, Option, Some, None, Ok, refl, ap, subst, ◌∙◌}
use Rattle.std.specs.Prelude.{flat_map, codes}
use Rattle.std.specs.List.{list_any}
use Rattle.tb_base.specs.declared.path.Region.{Region}
use Rattle.tb_base.specs.declared.path.Region.TheVariants.{Monitor}
use Rattle.net_core.specs.declared.ports.PortInfo.{PortInfo}
use Rattle.net_core.specs.Ports.{port_named}
use Rattle.tl_ast.specs.declared.tree.DriverKind.{DriverKind}
use Rattle.tl_ast.specs.declared.tree.DriverKind.TheVariants.{Enqueue, EnqueueNow, EnqueueSeq, ExpectDequeue, ExpectDequeueNow, ExpectDequeueSeq, ExpectInvalid}
use Rattle.tl_ast.specs.declared.tree.TestExpr.{TestExpr}
use Rattle.tl_ast.specs.declared.tree.TestExpr.TheVariants.{Num}
use Rattle.tl_ast.specs.declared.tree.TestStmt.{TestStmt}
use Rattle.tl_ast.specs.declared.tree.TestStmt.TheVariants as stmt
use Rattle.tl_ast.specs.declared.tree.TestStmt.TheOpen as S
use Rattle.tl_check.specs.Scopes.{Known, inside_fork, with_handle, drivers_variable, drivers_handle}
use Rattle.tl_check.specs.Values.{uses_unknown, is_bit, goes, is_too_wide, some_too_wide, ready_port, valid_port, bits_port, enqueues, is_ready_valid}
use Rattle.tl_check.specs.Walk.{Ports, Outcome, Part, some_gives, in_turn, behind_let, behind_fork, here, part}
use Rattle.tl_drivers.specs.Rows.{still_zero, until_set, watch, enqueue, enqueue_now, expect_dequeue, expect_dequeue_now, expect_invalid, driver, reset}
use Rattle.tl_drivers.proofs.Lists.{map_both, append_three}
use Rattle.tl_drivers.proofs.Names.{Name, Handles, known, Alike, alike_driver, among_with, handle_with, stays_known, or_left, or_right}
use Rattle.tl_drivers.proofs.Judging.{Keeps}
use Rattle.tl_drivers.proofs.Going.{Bit, There, bit_there, port_there, zero_fits, one_fits, bit_found, bit_in, there_found, there_in, num_known, zero_known, Goes, and_then, poke_goes, expect_goes, peek_goes, step_goes, let_goes, while_goes, if_goes, watch_goes, joinstep_goes}

and_left : (a b : Bool) → (a && b) ≡ true → a ≡ true
and_left true b e = refl
and_left false b e = e

and_right : (a b : Bool) → (a && b) ≡ true → b ≡ true
and_right true b e = e
and_right false b e = absurd cc

-- the ports of a ready-valid port
record Shaken (ports : Ports) (kind : DriverKind) (p : Name) : Type 0 where
  ready : Bit (not (enqueues kind)) (port_named (ready_port p) ports)
  valid : Bit (enqueues kind) (port_named (valid_port p) ports)
  bits : There (enqueues kind) (port_named (bits_port p) ports)

shaken : (ports : Ports) (kind : DriverKind) (p : Name) → not (is_ready_valid kind p ports) ≡ false → Shaken ports kind p
shaken ports kind p e =
    let r : Bool = is_bit (not (enqueues kind)) (port_named (ready_port p) ports) in
    let v : Bool = is_bit (enqueues kind) (port_named (valid_port p) ports) in
    let b : Bool = goes (enqueues kind) (port_named (bits_port p) ports) in
    let all : (r && (v && b)) ≡ true = sure (is_ready_valid kind p ports) e in
    record {
      ready = bit_there (not (enqueues kind)) (port_named (ready_port p) ports) (and_left r (v && b) all);
      valid = bit_there (enqueues kind) (port_named (valid_port p) ports) (and_left v b (and_right r (v && b) all));
      bits = port_there (enqueues kind) (port_named (bits_port p) ports) (and_right v b (and_right r (v && b) all));
    }
  where
    sure : (c : Bool) → not c ≡ false → c ≡ true
    sure true d = refl
    sure false d = absurd cc

module _ (ports : Ports) where
  -- a bit is polled until it is set
  until_goes : (input : Bool) (l : ℕ) (p : Name) (more : List TestStmt) (n : Known) (o : Outcome) → Bit input (port_named p ports)
      → in_turn (map part more) ports Monitor (behind_let drivers_variable n) ≡ o
      → in_turn (map part (until_set l p ++ more)) ports Monitor n ≡ o
  until_goes input l p more n o b rest =
      let k : Known = behind_let drivers_variable n in
      let set = among_with drivers_variable n.variables in
      let test = zero_known k.variables set in
      let one : in_turn (map part (stmt.Step l 1 ∷ [])) ports Monitor k ≡ Ok k =
      and_then ports (stmt.Step l 1) [] Monitor k k (Ok k) (step_goes ports l 1 Monitor (some_gives [] Monitor) k refl) refl in
      let inside : in_turn (map part (stmt.Peek l p (Some drivers_variable) ∷ stmt.If l still_zero (stmt.Step l 1 ∷ []) [] ∷ [])) ports Monitor k ≡ Ok k =
      and_then ports (stmt.Peek l p (Some drivers_variable)) (part (stmt.If l still_zero (stmt.Step l 1 ∷ []) []) ∷ []) Monitor k k (Ok k)
      (peek_goes ports l p drivers_variable Monitor (some_gives (part (stmt.If l still_zero (stmt.Step l 1 ∷ []) []) ∷ []) Monitor) k (bit_found input (port_named p ports) b) set)
      (and_then ports (stmt.If l still_zero (stmt.Step l 1 ∷ []) []) [] Monitor k k (Ok k)
      (if_goes ports l still_zero (stmt.Step l 1 ∷ []) Monitor (some_gives [] Monitor) k k test one) refl) in
      let loop : TestStmt = stmt.While l still_zero (stmt.Peek l p (Some drivers_variable) ∷ stmt.If l still_zero (stmt.Step l 1 ∷ []) [] ∷ []) in
      and_then ports (stmt.Let l drivers_variable (Num 0)) (part loop ∷ map part more) Monitor n k o
      (let_goes ports l (Num 0) Monitor (some_gives (part loop ∷ map part more) Monitor) n (num_known n.variables 0))
      (and_then ports loop (map part more) Monitor k k o
      (while_goes ports l still_zero (stmt.Peek l p (Some drivers_variable) ∷ stmt.If l still_zero (stmt.Step l 1 ∷ []) [] ∷ []) Monitor (some_gives (map part more) Monitor) k k test inside) rest)

  -- `poke S = 1; fork monitor $d { .. } joinstep $d; poke S = 0;`
  abbrev handshake : ℕ → Name → List TestStmt → List TestStmt
  handshake l signal body = stmt.Poke l signal (Num 1) ∷ watch l body ∷ stmt.JoinStep l drivers_handle ∷ stmt.Poke l signal (Num 0) ∷ []

  -- behind a driver its handle is known
  abbrev behind_driver : Known → Known
  behind_driver n = behind_fork drivers_handle true n

  handshake_goes : (l : ℕ) (signal : Name) (body : List TestStmt) (g : Region) (n i : Known) (ps : List Part) → Bit true (port_named signal ports)
      → in_turn (map part body) ports Monitor (inside_fork n) ≡ Ok i
      → in_turn (map part (handshake l signal body) ++ ps) ports g n ≡ in_turn ps ports g (behind_driver n)
  handshake_goes l signal body g n i ps b inside =
      let m : Known = behind_driver n in
      let o : Outcome = in_turn ps ports g m in
      let last : List Part = part (stmt.Poke l signal (Num 0)) ∷ ps in
      let wait : List Part = part (stmt.JoinStep l drivers_handle) ∷ last in
      and_then ports (stmt.Poke l signal (Num 1)) (part (watch l body) ∷ wait) g n n o
      (poke_goes ports l signal (Num 1) g (some_gives (part (watch l body) ∷ wait) g) n (bit_found true (port_named signal ports) b) (bit_in (port_named signal ports) b)
      (one_fits true (port_named signal ports) b) (num_known n.variables 1))
      (and_then ports (watch l body) wait g n m o (watch_goes ports l body g (some_gives wait g) n i inside)
      (and_then ports (stmt.JoinStep l drivers_handle) last g m m o
      (joinstep_goes ports l drivers_handle g (some_gives last g) m (handle_with drivers_handle true n.handles))
      (and_then ports (stmt.Poke l signal (Num 0)) ps g m m o
      (poke_goes ports l signal (Num 0) g (some_gives ps g) m (bit_found true (port_named signal ports) b) (bit_in (port_named signal ports) b)
      (zero_fits true (port_named signal ports) b) (num_known m.variables 0))
      refl)))

  -- one expect, and then others
  expect_then : (l : ℕ) (p : Name) (e : TestExpr) (ps : List Part) (g : Region) (n : Known) (o : Outcome) → Goes ports (stmt.Expect l p e) g (some_gives ps g) n n
      → in_turn ps ports g n ≡ o → in_turn (part (stmt.Expect l p e) ∷ ps) ports g n ≡ o
  expect_then l p e ps g n o = and_then ports (stmt.Expect l p e) ps g n n o

  -- ---- the rows of one value

  module _ (l : ℕ) (p : Name) (g : Region) (vs : List Name) (e : TestExpr) (width : some_too_wide (port_named (bits_port p) ports) (e ∷ []) ≡ false)
      (used : uses_unknown vs e ≡ false) where
    abbrev RowGoes : List TestStmt → Type 0
    RowGoes row = (ks : Handles) (ps : List Part) → in_turn (map part row ++ ps) ports g (known vs ks) ≡ in_turn ps ports g (behind_driver (known vs ks))

    abbrev inside : Handles → Known
    inside ks = inside_fork (known vs ks)

    bits_driven : (signal : Name) (body : List TestStmt) (ks : Handles) (i : Known) (ps : List Part) → There true (port_named (bits_port p) ports) → Bit true (port_named signal ports)
        → in_turn (map part body) ports Monitor (inside ks) ≡ Ok i
        → in_turn (map part (stmt.Poke l (bits_port p) e ∷ handshake l signal body) ++ ps) ports g (known vs ks) ≡ in_turn ps ports g (behind_driver (known vs ks))
    bits_driven signal body ks i ps t b k =
        let n : Known = known vs ks in
        let more : List Part = map part (handshake l signal body) ++ ps in
        and_then ports (stmt.Poke l (bits_port p) e) more g n n (in_turn ps ports g (behind_driver n))
        (poke_goes ports l (bits_port p) e g (some_gives more g) n (there_found true (port_named (bits_port p) ports) t) (there_in (port_named (bits_port p) ports) t) width used)
        (handshake_goes l signal body g n i ps b k)

    enqueue_goes : (kind : DriverKind) → enqueues kind ≡ true → Shaken ports kind p → RowGoes (enqueue l p e)
    enqueue_goes kind is s ks ps =
        let ready : Bit false (port_named (ready_port p) ports) = subst (λ b. Bit (not b) (port_named (ready_port p) ports)) is s.ready in
        let valid : Bit true (port_named (valid_port p) ports) = subst (λ b. Bit b (port_named (valid_port p) ports)) is s.valid in
        let bits : There true (port_named (bits_port p) ports) = subst (λ b. There b (port_named (bits_port p) ports)) is s.bits in
        bits_driven (valid_port p) (until_set l (ready_port p)) ks (behind_let drivers_variable (inside ks)) ps bits valid
        (until_goes false l (ready_port p) [] (inside ks) (Ok (behind_let drivers_variable (inside ks))) ready refl)

    enqueue_now_goes : (kind : DriverKind) → enqueues kind ≡ true → Shaken ports kind p → RowGoes (enqueue_now l p e)
    enqueue_now_goes kind is s ks ps =
        let ready : Bit false (port_named (ready_port p) ports) = subst (λ b. Bit (not b) (port_named (ready_port p) ports)) is s.ready in
        let valid : Bit true (port_named (valid_port p) ports) = subst (λ b. Bit b (port_named (valid_port p) ports)) is s.valid in
        let bits : There true (port_named (bits_port p) ports) = subst (λ b. There b (port_named (bits_port p) ports)) is s.bits in
        bits_driven (valid_port p) (stmt.Expect l (ready_port p) (Num 1) ∷ []) ks (inside ks) ps bits valid
        (expect_then l (ready_port p) (Num 1) [] Monitor (inside ks) (Ok (inside ks))
        (expect_goes ports l (ready_port p) (Num 1) Monitor (some_gives [] Monitor) (inside ks) (bit_found false (port_named (ready_port p) ports) ready)
        (one_fits false (port_named (ready_port p) ports) ready) (num_known vs 1)) refl)

    -- the value is expected where `$r` is known, and where it isn't
    bits_expected : (n : Known) → There false (port_named (bits_port p) ports) → uses_unknown n.variables e ≡ false → in_turn (map part (stmt.Expect l (bits_port p) e ∷ [])) ports Monitor n ≡ Ok n
    bits_expected n t u =
        expect_then l (bits_port p) e [] Monitor n (Ok n)
        (expect_goes ports l (bits_port p) e Monitor (some_gives [] Monitor) n (there_found false (port_named (bits_port p) ports) t) width u) refl

    expect_dequeue_goes : (kind : DriverKind) → enqueues kind ≡ false → Shaken ports kind p → RowGoes (expect_dequeue l p e)
    expect_dequeue_goes kind is s ks ps =
        let ready : Bit true (port_named (ready_port p) ports) = subst (λ b. Bit (not b) (port_named (ready_port p) ports)) is s.ready in
        let valid : Bit false (port_named (valid_port p) ports) = subst (λ b. Bit b (port_named (valid_port p) ports)) is s.valid in
        let bits : There false (port_named (bits_port p) ports) = subst (λ b. There b (port_named (bits_port p) ports)) is s.bits in
        let k : Known = behind_let drivers_variable (inside ks) in
        handshake_goes l (ready_port p) (until_set l (valid_port p) ++ stmt.Expect l (bits_port p) e ∷ []) g (known vs ks) k ps ready
        (until_goes false l (valid_port p) (stmt.Expect l (bits_port p) e ∷ []) (inside ks) (Ok k) valid
        (bits_expected k bits (stays_known drivers_variable vs e used)))

    expect_dequeue_now_goes : (kind : DriverKind) → enqueues kind ≡ false → Shaken ports kind p → RowGoes (expect_dequeue_now l p e)
    expect_dequeue_now_goes kind is s ks ps =
        let ready : Bit true (port_named (ready_port p) ports) = subst (λ b. Bit (not b) (port_named (ready_port p) ports)) is s.ready in
        let valid : Bit false (port_named (valid_port p) ports) = subst (λ b. Bit b (port_named (valid_port p) ports)) is s.valid in
        let bits : There false (port_named (bits_port p) ports) = subst (λ b. There b (port_named (bits_port p) ports)) is s.bits in
        let n : Known = inside ks in
        let last : List TestStmt = stmt.Expect l (bits_port p) e ∷ [] in
        handshake_goes l (ready_port p) (stmt.Expect l (valid_port p) (Num 1) ∷ last) g (known vs ks) n ps ready
        (expect_then l (valid_port p) (Num 1) (map part last) Monitor n (Ok n)
        (expect_goes ports l (valid_port p) (Num 1) Monitor (some_gives (map part last) Monitor) n (bit_found false (port_named (valid_port p) ports) valid)
        (one_fits false (port_named (valid_port p) ports) valid) (num_known vs 1))
        (bits_expected n bits used))

  -- ---- what stands for a statement

  -- From the names that are known in front of a statement in the core form, these statements lead to the same ones that the statement
  -- leads to in the test, but for the drivers' handle.
  pub record Reaches (g : Region) (vs : List Name) (ks : Handles) (ss : List TestStmt) (ps : List Part) (m : Known) : Type 0 where
    pub handles : Handles
    pub alike : Alike m.handles handles
    pub goes : in_turn (map part ss ++ ps) ports g (known vs ks) ≡ in_turn ps ports g (known m.variables handles)

  wide_parts : (o : Option PortInfo) (v : TestExpr) (values : List TestExpr) → some_too_wide o (v ∷ values) ≡ false
      → (some_too_wide o (v ∷ []) ≡ false) × (some_too_wide o values ≡ false)
  wide_parts None v values e = (refl, refl)
  wide_parts (Some i) v values e =
      (ap (λ b. b || false) (or_left (is_too_wide i v) (list_any (is_too_wide i) values) e), or_right (is_too_wide i v) (list_any (is_too_wide i) values) e)

  module _ (o : Option PortInfo) (g : Region) (vs : List Name) (row : TestExpr → List TestStmt)
      (h : (e : TestExpr) → some_too_wide o (e ∷ []) ≡ false → uses_unknown vs e ≡ false → (ks : Handles) (ps : List Part)
      → in_turn (map part (row e) ++ ps) ports g (known vs ks) ≡ in_turn ps ports g (behind_driver (known vs ks))) where
    each_goes : (values : List TestExpr) → some_too_wide o values ≡ false → list_any (uses_unknown vs) values ≡ false → (hs ks : Handles) → Alike hs ks → (ps : List Part)
        → Reaches g vs ks (flat_map row values) ps (known vs hs)
    each_goes [] width used hs ks a ps = record { handles = ks; alike = a; goes = refl }
    each_goes (v ∷ values) width used hs ks a ps =
        let w = wide_parts o v values width in
        let more : List TestStmt = flat_map row values in
        let r = each_goes values w.1 (or_right (uses_unknown vs v) (list_any (uses_unknown vs) values) used) hs (with_handle drivers_handle true ks) (alike_driver true hs ks a) ps in
        record {
          handles = r.handles;
          alike = r.alike;
          goes = ap (λ qs. in_turn qs ports g (known vs ks)) (ap (λ qs. qs ++ ps) (map_both part (row v) more) ∙ append_three (map part (row v)) (map part more) ps)
              ∙ h v w.0 (or_left (uses_unknown vs v) (list_any (uses_unknown vs) values) used) ks (map part more ++ ps) ∙ r.goes;
        }

  invalid_goes : (l : ℕ) (p : Name) (g : Region) (vs : List Name) (hs ks : Handles) (ps : List Part) → Shaken ports ExpectInvalid p → Alike hs ks
      → Reaches g vs ks (expect_invalid l p) ps (known vs hs)
  invalid_goes l p g vs hs ks ps s a =
      let n : Known = known vs ks in
      let i : Known = inside_fork n in
      let body : List TestStmt = stmt.Expect l (valid_port p) (Num 0) ∷ [] in
      record {
        handles = with_handle drivers_handle true ks;
        alike = alike_driver true hs ks a;
        goes = and_then ports (watch l body) ps g n (behind_driver n) (in_turn ps ports g (behind_driver n))
            (watch_goes ports l body g (some_gives ps g) n i
            (expect_then l (valid_port p) (Num 0) [] Monitor i (Ok i)
            (expect_goes ports l (valid_port p) (Num 0) Monitor (some_gives [] Monitor) i (bit_found false (port_named (valid_port p) ports) s.valid)
            (zero_fits false (port_named (valid_port p) ports) s.valid) (num_known vs 0)) refl))
            refl;
      }

  pub driver_goes : (l : ℕ) (kind : DriverKind) (p : Name) (values : List TestExpr) (g : Region) (vs : List Name) (hs ks : Handles) (ps : List Part)
      → Keeps Part (here ports g (known vs hs)) (S.Driver l kind p values) → Alike hs ks → Reaches g vs ks (driver l kind p values) ps (known vs hs)
  driver_goes l kind p values g vs hs ks ps k a = go kind (shaken ports kind p k.ready_valid)
    where
      each : (row : TestExpr → List TestStmt)
          → ((e : TestExpr) → some_too_wide (port_named (bits_port p) ports) (e ∷ []) ≡ false → uses_unknown vs e ≡ false → (js : Handles) (qs : List Part)
          → in_turn (map part (row e) ++ qs) ports g (known vs js) ≡ in_turn qs ports g (behind_driver (known vs js)))
          → Reaches g vs ks (flat_map row values) ps (known vs hs)
      each row h = each_goes (port_named (bits_port p) ports) g vs row h values k.width (or_left (list_any (uses_unknown vs) values) false k.variable) hs ks a ps

      go : (kind : DriverKind) → Shaken ports kind p → Reaches g vs ks (driver l kind p values) ps (known vs hs)
      go Enqueue s = each (enqueue l p) (λ e w u. enqueue_goes l p g vs e w u Enqueue refl s)
      go EnqueueSeq s = each (enqueue l p) (λ e w u. enqueue_goes l p g vs e w u EnqueueSeq refl s)
      go EnqueueNow s = each (enqueue_now l p) (λ e w u. enqueue_now_goes l p g vs e w u EnqueueNow refl s)
      go ExpectDequeue s = each (expect_dequeue l p) (λ e w u. expect_dequeue_goes l p g vs e w u ExpectDequeue refl s)
      go ExpectDequeueSeq s = each (expect_dequeue l p) (λ e w u. expect_dequeue_goes l p g vs e w u ExpectDequeueSeq refl s)
      go ExpectDequeueNow s = each (expect_dequeue_now l p) (λ e w u. expect_dequeue_now_goes l p g vs e w u ExpectDequeueNow refl s)
      go ExpectInvalid s = invalid_goes l p g vs hs ks ps s a

  sure : (c : Bool) → not c ≡ false → c ≡ true
  sure true e = refl
  sure false e = absurd cc

  abbrev reset_port : Name
  reset_port = codes "reset"

  pub reset_goes : (l count : ℕ) (g : Region) (vs : List Name) (hs ks : Handles) (ps : List Part)
      → Keeps Part (here ports g (known vs hs)) (S.ResetFor l count) → Alike hs ks → Reaches g vs ks (reset l count) ps (known vs hs)
  reset_goes l count g vs hs ks ps k a =
      let found : Option PortInfo = port_named reset_port ports in
      let b : Bit true found = bit_there true found (sure (is_bit true found) k.port) in
      let n : Known = known vs ks in
      let o : Outcome = in_turn ps ports g n in
      let last : List Part = part (stmt.Poke l reset_port (Num 0)) ∷ ps in
      record {
        handles = ks;
        alike = a;
        goes = and_then ports (stmt.Poke l reset_port (Num 1)) (part (stmt.Step l count) ∷ last) g n n o
            (poke_goes ports l reset_port (Num 1) g (some_gives (part (stmt.Step l count) ∷ last) g) n (bit_found true found b) (bit_in found b) (one_fits true found b) (num_known vs 1))
            (and_then ports (stmt.Step l count) last g n n o (step_goes ports l count g (some_gives last g) n k.step)
            (and_then ports (stmt.Poke l reset_port (Num 0)) ps g n n o
            (poke_goes ports l reset_port (Num 0) g (some_gives ps g) n (bit_found true found b) (bit_in found b) (zero_fits true found b) (num_known vs 0))
            refl));
      }
