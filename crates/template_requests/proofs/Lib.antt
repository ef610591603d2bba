mod Floatless
mod Lacking
mod NoWord
mod Numbered
mod Numbers
mod Telling
mod Texts
