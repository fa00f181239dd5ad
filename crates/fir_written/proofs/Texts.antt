-- What a text spells is written: the words and the numbers of its items are such that a text holds them.
use Rattle.std.proofs.Common.{◌≡◌, ℕ, List, [], ◌∷◌}
use Rattle.std.specs.Prelude.{◌^◌, Some}
use Rattle.std.proofs.lemmas.Bool.{lt-ltb}
use Rattle.text_grammar.specs.declared.item.Item.{Item}
use Rattle.text_grammar.specs.declared.item.Token.{Token}
use Rattle.text_grammar.specs.declared.item.Token.TheVariants as token
use Rattle.fir_lex.specs.Lex.{items_of}
use Rattle.fir_ast.specs.Circuits.{circuit_of, spells_circuit}
use Rattle.fir_ast.specs.declared.tree.Circuit.{Circuit}
use Rattle.fir_read.proofs.Texts.{found_spelled}
use Rattle.fir_round.specs.Sound.{SoundToken, Sound, token_after}
use Rattle.fir_round.proofs.ItemSound.{items_sound}
use Rattle.fir_written.specs.Written.{IsWritten}
use Rattle.fir_written.proofs.Gives.{FineToken, Fine}
use Rattle.fir_written.proofs.BlocksWritten.{circuit_written}

fine_token : (t : Token) → SoundToken t → FineToken t
fine_token (token.Word w) h = h
fine_token (token.Number n) h = lt-ltb n (2 ^ 128) h
fine_token _ h = tt

fine : (depth : ℕ) (items : List Item) → Sound depth items → Fine items
fine depth [] h = tt
fine depth (x ∷ rest) h = (fine_token x.token h.1, fine (token_after depth x.token) rest h.2)

pub spelled_written : (text : List ℕ) (c : Circuit) → spells_circuit text c → IsWritten c
unfolding spells_circuit
spelled_written text c h = circuit_written (items_of text) c (fine 0 (items_of text) (items_sound text)) h

pub found_written : (text : List ℕ) (c : Circuit) → circuit_of text ≡ Some c → IsWritten c
found_written text c h = spelled_written text c (found_spelled text c h)
