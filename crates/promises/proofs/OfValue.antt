-- `value`: each public call allows one answer. Assumes nothing.
use Rattle.std.specs.Prelude.{Some, None, Option}
use mathlib.Core.Path.{◌≡◌, refl, sym, ◌∙◌}
use Rattle.cursor.specs.Answer.{Maybe}
use Rattle.value.specs.Scalar.{decoding_answer}
use Rattle.value.specs.declared.Decoded.{Decoded}
use Rattle.value.proofs.Kind.all.Kinds as allK
use Rattle.value.proofs.Kind.all.Reads as all_r
use Rattle.value.proofs.Kind.known.Kinds as knownK
use Rattle.value.proofs.Kind.known.Reads as knownR
use Rattle.value.proofs.Kind.width.Kinds as widthK
use Rattle.value.proofs.Kind.width.Reads as widthR
use Rattle.value.proofs.Kind.element_width.Kinds as elementK
use Rattle.value.proofs.Kind.element_width.Reads as elementR
use Rattle.value.proofs.read_sized.Kinds as sizedK
use Rattle.value.proofs.read_sized.Reads as sizedR
use Rattle.value.proofs.read_unsized.Kinds as unsizedK
use Rattle.value.proofs.read_unsized.Reads as unsizedR
use Rattle.value.proofs.decode.Kinds as decodeK
use Rattle.value.proofs.decode.Reads as decodeR
use Rattle.promises.proofs.One.{Single, option_of, read_back, read_one}

pub decoding_one : (x y : Option Decoded) (b : Maybe Decoded) → decoding_answer x ≡ b → decoding_answer y ≡ b → x ≡ y
decoding_one = read_back decoding_answer option_of back
  where
    back : (x : Option Decoded) → option_of (decoding_answer x) ≡ x
    back (Some d) = refl
    back None = refl

pub all : Single 0 allK.ps allK.r all_r.Post
all κs a x y s t p q = p ∙ sym q

pub known : Single 0 knownK.ps knownK.r knownR.Post
known κs a x y s t p q = p ∙ sym q

pub width : Single 0 widthK.ps widthK.r widthR.Post
width κs a x y s t p q = p ∙ sym q

pub element_width : Single 0 elementK.ps elementK.r elementR.Post
element_width κs a x y s t p q = p ∙ sym q

pub read_sized : Single 1 sizedK.ps sizedK.r sizedR.Post
read_sized κs a x y s t p q = read_one x y _ p q

pub read_unsized : Single 1 unsizedK.ps unsizedK.r unsizedR.Post
read_unsized κs a x y s t p q = read_one x y _ p q

pub decode : Single 1 decodeK.ps decodeK.r decodeR.Post
decode κs a x y s t p q = decoding_one x y _ p q
