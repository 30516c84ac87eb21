-- What a `SheetWalker` owns, as the proofs by hand take it apart. It is Copy: what it owns is had twice, one copy is kept whole for the exit, and of the other what
-- the text owns, beside the facts of the place and of the byte that ends a part, is what a function over a plain slice, a place and a byte asks.
use Rattle.std.proofs.Common.{◌≡◌, ℕ, ◌^◌, ◌<◌, [], ◌∷◌, length, refl, w8, w64}
use seplogic.Ra.Ura.{Ura}
use mir.Syntax.{named}
use mir.Val.{Val, vint}
use base.Logic.{ent}
use base.Fml.{Lft, Share, Fml, ftrue, flft}
use types.Logic.{Logic}
use contract.Lifetimes.{Lfts}
use types.Kit.{‵, ◌⊛◌, given, ⋆, ◌$◌, ◌∵◌, !, qed, move, drop, use1, split, learn, fsplit, fjoin, frame, done}
use denote.RattleType.{RattleType, owns}
use denote.Laws.{Is}
use denote.Plain.{uint_Makes}
use denote.Builtin.{u8, usize}
use denote.Signature.{named_lft}
use denote.Slice.{slice_val, ShrSlice}
use denote.Steps.{owned, nothing}
use denote.Struct.Declared.{Declared}
use denote.Struct.Laws as LL
use denote.Struct.Rest.{all_own, field_own, rest, own_open, own_out}
use denote.Struct.Values.{Values}
use Rattle.sheet.specs.declared.walk.SheetWalker.{SheetWalker}
use Rattle.sheet.specs.contracts.walk.SheetWalker as T
use Rattle.sheet.proofs.walk.SheetWalker.TheLaws as T'

-- the struct's type, over the signature's lifetimes
abbrev pub B : Lfts 1 → RattleType
B κs = T.the_row (named_lft 1 0 tt κs)

-- the machine value of a walker's text
abbrev pub text_val : SheetWalker → Val
text_val d = slice_val d.text.ref_ptr (length d.text.now)

-- what a walker owns
abbrev pub Own : Lft → SheetWalker → Fml
Own κ d = (B (κ, tt)).own_val d (T'.lowered d ∷ [])

-- what its text, its place and a byte own, as they are passed
abbrev pub Passed : Lft → SheetWalker → ℕ → Fml
Passed κ d b = owns (ShrSlice (named 0) κ u8 ∷ usize ∷ u8 ∷ []) (d.text, (d.at, (b, tt))) (text_val d ∷ [], (vint w64 d.at ∷ [], (vint w8 b ∷ [], tt)))

module _ {M : Type 1} {𝓤 : Ura M} (𝓛 : Logic 𝓤) (κ : Lft) (q : Share) (d : SheetWalker) where
  -- the struct's type and laws, and d's fields' values
  abbrev D : Declared
  D = T.the_type (named_lft 1 0 tt (κ, tt))

  abbrev L : LL.Laws D
  L = T'.the_laws (named_lft 1 0 tt (κ, tt))

  abbrev vd : Values D.parts
  vd = (d.text, (d.at, tt))

  pub lends : (b : ℕ) → d.at < 2 ^ 64 → b < 2 ^ 8
      → ent 𝓤 (⋆ 𝓛 ((‵ (flft κ q) ⊛ ‵ ftrue) ∷ ‵ (owns (B (κ, tt) ∷ u8 ∷ []) (d, (b, tt)) (T'.lowered d ∷ [], (vint w8 b ∷ [], tt))) ∷ []))
      (⋆ 𝓛 ((‵ (flft κ q) ⊛ ‵ ftrue) ∷ ‵ (Passed κ d b) ∷ ‵ (Own κ d) ∷ []))
  lends b fits small =
      qed 𝓛 ((‵ (flft κ q) ⊛ ‵ ftrue) ∷ ‵ (owns (B (κ, tt) ∷ u8 ∷ []) (d, (b, tt)) (T'.lowered d ∷ [], (vint w8 b ∷ [], tt))) ∷ []) ∵
      frame ! $ fsplit ! $ move ! (1 ∷ []) $ drop ! $ use1 𝓛 (‵ (Own κ d) ⊛ ‵ (Own κ d)) ((LL.copy D (T'.the_copy (named_lft 1 0 tt (κ, tt))) 𝓛).twice d (T'.lowered d ∷ [])) $ split ! $
      use1 𝓛 (given (T'.lowered d ∷ [] ≡ T'.lowered d ∷ []) (‵ (all_own D.parts L vd))) (own_open 𝓛 D L vd (T'.lowered d)) $ learn ! (λ _. use1 𝓛 (‵ (field_own D.parts L 0 d.text) ⊛ ‵ (rest D.parts L 0 vd)) (own_out 𝓛 D.parts L 0 vd) $ split ! $
      -- [what text owns; what at owns; what the struct owns]
      move ! (1 ∷ []) $ drop ! $ nothing ! $ owned ! u8 (Is u8) (uint_Makes 𝓛 w8) b _ (refl, small) $ fjoin ! $ owned ! usize (Is usize) (uint_Makes 𝓛 w64) d.at _ (refl, fits) $ fjoin ! $ move ! (1 ∷ 0 ∷ []) $ fjoin ! $ frame ! $ done !)
