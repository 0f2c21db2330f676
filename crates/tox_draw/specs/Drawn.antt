-- What a drawing writes.
use Rattle.std.specs.Prelude.{◌≡◌, ℕ, List, Option}
use Rattle.std.specs.Io.KnownBytes.{append_known}
use Rattle.tox_text.specs.Writing.{AppendsFront}
use Rattle.tox_time.specs.declared.streams.stream.Stream.{Stream}
use Rattle.tox_draw.specs.declared.axis.Axis.{Axis}
use Rattle.tox_draw.specs.declared.picture.Picture.{Picture}
use Rattle.tox_draw.specs.declared.setting.Setting.{Setting}
use Rattle.tox_draw.specs.declared.setting.Setting.TheVariants.{Alone, OnPage}
use Rattle.tox_draw.specs.Frames.{IsFrame}
use Rattle.tox_draw.specs.Pictures.{picture_text}
use Rattle.tox_draw.specs.Recorded.{IsPictureOf}

-- the text of a picture that stands so
pub record IsPictureIn (setting : Setting) (text : List ℕ) : Type 0 where
  pub picture : Picture
  pub stands : picture.setting ≡ setting
  pub frame : IsFrame picture.frame
  pub is : text ≡ picture_text picture

-- the text of a picture that stands alone
abbrev pub IsPictureText : List ℕ → Type 0
IsPictureText text = IsPictureIn Alone text

-- the text of a picture of these bytes that stands alone
abbrev pub IsPictureAlone : Option (List ℕ) → List ℕ → Type 0
IsPictureAlone given text = IsPictureOf given Alone text

-- the text of a picture of these bytes that stands so, with this axis of time
pub record IsPictureOn (time : Axis) (given : Option (List ℕ)) (setting : Setting) (text : List ℕ) : Type 0 where
  pub shown : IsPictureOf given setting text
  pub axis : shown.picture.frame.time ≡ time

-- the text of a picture of these bytes that stands on a page, as that of a link's stream
abbrev pub IsPictureOnPage : Axis → Option (List ℕ) → ℕ → Stream → List ℕ → Type 0
IsPictureOnPage time given number stream text = IsPictureOn time given (OnPage number stream) text

-- the text of such a picture was written, and nothing else
pub record WritesPicture (IsDrawn : List ℕ → Type 0) (old new : Option (List ℕ)) : Type 0 where
  pub text : List ℕ
  pub drawn : IsDrawn text
  pub written : new ≡ append_known old text

-- a prefix of the text of such a picture was written
pub record WritesPictureFront (IsDrawn : List ℕ → Type 0) (old new : Option (List ℕ)) : Type 0 where
  pub text : List ℕ
  pub drawn : IsDrawn text
  pub front : AppendsFront old new text
