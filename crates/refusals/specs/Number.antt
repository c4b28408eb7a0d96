-- The documents' number of each refusal: document 01, "When a call is turned down", and 02's tickets 3, 6, 8, 9 and 10. Assumes nothing.
use Rattle.std.specs.Prelude.{ℕ, Option, None, Some, Result, Ok, Err}
use Rattle.refusals.specs.declared.Refusal.{Refusal}
use Rattle.refusals.specs.declared.Refusal.TheVariants.{Width, Height, ConcreteClass, SteelStrength, LayerCount, LayerDepth, LayerArea}
use Rattle.refusals.specs.declared.Refusal.TheVariants.{AxialForce, BendingMoment, ShearForce}
use Rattle.refusals.specs.declared.Refusal.TheVariants.{ForceTooLow, ForceTooHigh, DepthRange, MapCut, UnknownField, RecordCut, FieldMissing}
use Rattle.refusals.specs.declared.Refusal.TheVariants.{BufferTooShort, InputTooLong, LinkArea, LinkSpacing, LinksUnderForce, LayerSequence}
use Rattle.refusals.specs.declared.Refusal.TheVariants.{DesignSituation, LayerPlace, LongTermFactor}

abbrev pub number_of : Refusal → ℕ
number_of Width = 1
number_of Height = 2
number_of ConcreteClass = 3
number_of SteelStrength = 4
number_of LayerCount = 5
number_of LayerDepth = 6
number_of LayerArea = 7
number_of AxialForce = 8
number_of BendingMoment = 9
number_of ShearForce = 10
number_of ForceTooLow = 11
number_of ForceTooHigh = 12
number_of DepthRange = 13
number_of MapCut = 20
number_of UnknownField = 21
number_of RecordCut = 22
number_of FieldMissing = 23
number_of BufferTooShort = 25
number_of InputTooLong = 26
number_of LinkArea = 27
number_of LinkSpacing = 28
number_of LinksUnderForce = 29
number_of LayerSequence = 31
number_of DesignSituation = 32
number_of LayerPlace = 33
number_of LongTermFactor = 34

-- the number of the first test that fails, 0 where none does
abbrev pub number_or_0 : Option Refusal → ℕ
number_or_0 None = 0
number_or_0 (Some r) = number_of r

-- the number of an answer: its refusal's, 0 for none
abbrev pub refusal_number : {A : Type 0} → Result A Refusal → ℕ
refusal_number (Ok x) = 0
refusal_number (Err r) = number_of r
