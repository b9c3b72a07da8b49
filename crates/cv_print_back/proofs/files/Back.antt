-- The text of the game of a file is read back.
use Rattle.std.proofs.Common.{◌≡◌, ℕ, List, length, subst, arith, sym, ap, ◌∙◌, true}
use Rattle.cv_pool.specs.KindTree.{KindTree}
use Rattle.cv_syntax.specs.declared.decls.Decl.{Decl}
use Rattle.cv_syntax_trees.specs.Tree.{Tree}
use Rattle.cv_parse_notation.specs.declared.sign.Sign.{Sign}
use Rattle.cv_parse_tables.specs.terminals.Signs.{signs_of}
use Rattle.cv_parse.specs.Parsed.{Parsed}
use Rattle.cv_parse.specs.Says.{Says}
use Rattle.cv_parse.proofs.Exactness.{says_is_said}
use Rattle.cv_parse_laws.proofs.Signs.{signs_named}
use Rattle.cv_parse_laws.proofs.WrittenGames.{game_written}
use Rattle.cv_print_bytes.specs.Known.{AreNames, is_named}
use Rattle.cv_print_bytes.proofs.Files.{names_of_file}
use Rattle.cv_print_back.proofs.Back.{game_comes_back}
use Rattle.cv_print_back.specs.files.Back.{ComesBack, Declares, IsFileText, IsFlat, IsShallow, NamesObey}
use Rattle.cv_print_back.proofs.files.Flat.{game_flat}
use Rattle.cv_print_back.proofs.files.GameNames.{no_fault_back}
use Rattle.cv_print_bytes.proofs.numbers.SmallSigns.{game_numbers, tokens_of_text}

pub names_obey : (limit : ℕ) (signs : List Sign) (p : Parsed) (trees : List KindTree) (ds : List Decl) → Says limit signs p → Declares trees ds p → NamesObey ds p.game
names_obey limit signs p trees ds w d = no_fault_back limit signs p trees ds (says_is_said limit signs p w) d

pub comes_back : (limit : ℕ) (bytes : List ℕ) (names : List (List ℕ)) (p : Parsed) (trees : List KindTree) (ds : List Decl) → IsFileText limit bytes names p → Declares trees ds p → IsFlat p.game → ComesBack names ds p.game
comes_back limit bytes names p trees ds w d f room live r =
    let signed = signs_of w.tokens in
    let are : AreNames signed.names = names_of_file w.tokens (tokens_of_text bytes w.tokens w.lexed).are in
    let named : is_named (length signed.names) p.game ≡ true = game_numbers bytes w.tokens w.says.decls w.says.script p.game w.lexed w.short w.says.read in
    game_comes_back room live names ds p.game (record {
      known = subst AreNames (sym w.names_are) are;
      named = ap (λ l. is_named (length l) p.game) w.names_are ∙ named;
      written = game_written limit signed.signs p (signs_named w.tokens) (says_is_said limit signed.signs p w.says);
      flat = f;
      obeys = names_obey limit signed.signs p trees ds w.says d;
      small = w.says.small;
      shallow = w.says.shallow;
      room = r;
    })

pub shallow_is_flat : (t : Tree) → IsShallow t → IsFlat t
shallow_is_flat t h = let f = game_flat t in omega arith
